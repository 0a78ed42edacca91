-- The journal of a replay has the laws.
use Rattle.std.proofs.Common.{◌≡◌, ℕ, List, subst}
use Rattle.ev_types.specs.Scripts.{ScriptParts}
use Rattle.ev_types.specs.declared.journals.Format.TheVariants.{Two}
use Rattle.ev_model.specs.Laws.{Laws, RunsHaveLaws, Told}
use Rattle.ev_model.specs.Runs.{IsRun}
use Rattle.ev_journal.specs.Rendering.{rendering_of}
use Rattle.ev_journal_read.specs.OneJournal.{AreBounded}
use Rattle.ev_actors.specs.Journals.{HasReplayed, JournalParts}
use Rattle.ev_app.specs.Replay.{IsReplayText}

pub has_laws : (script : ScriptParts) (parts : JournalParts) → RunsHaveLaws → HasReplayed script parts → IsRun parts.format parts.workers parts.node parts.journal
    → Laws record { format = Two; workers = script.workers; node = script.node; journal = parts.journal }
has_laws script parts laws done run =
    let run_told : Told = record { format = parts.format; workers = parts.workers; node = parts.node; journal = parts.journal } in
    let told : Told = record { format = Two; workers = script.workers; node = script.node; journal = parts.journal } in
    let same : run_told ≡ told = λ i. record { format = done.format i; workers = done.workers i; node = done.node i; journal = parts.journal } in
    subst Laws same (laws parts.format parts.workers parts.node parts.journal run)

-- so has the one whose text this is
pub text_of : (script : ScriptParts) (parts : JournalParts) (text : List ℕ) → RunsHaveLaws → HasReplayed script parts → IsRun parts.format parts.workers parts.node parts.journal
    → text ≡ rendering_of Two script.workers parts.journal → AreBounded parts.journal → IsReplayText script text
text_of script parts text laws done run rendered bounded = record {
  journal = parts.journal;
  replay = done.journal;
  laws = has_laws script parts laws done run;
  rendered = rendered;
  bounded = bounded;
}
