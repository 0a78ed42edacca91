-- The text of a threaded run is that of one journal alone, which has the laws.
use Rattle.std.proofs.Common.{◌≡◌, ℕ, List, ◌∙◌}
use Rattle.ev_types.specs.Scripts.{ScriptParts, IsScript}
use Rattle.ev_types.specs.declared.events.Entry.{Entry}
use Rattle.ev_types.specs.declared.journals.Format.TheVariants.{Two}
use Rattle.ev_model.specs.Operations.{IsRunOf}
use Rattle.ev_journal.specs.Rendering.{rendering_of}
use Rattle.ev_journal_read.specs.OneJournal.{AreBounded, TextTellsJournal}
use Rattle.ev_actors.specs.Journals.{JournalParts}
use Rattle.ev_run.specs.Playing.{HasRun}
use Rattle.ev_app.specs.Runs.{IsRunText, IsOnlyOne}

-- no other journal has the text
only_one : (script : ScriptParts) (journal : List Entry) (text : List ℕ) → TextTellsJournal → IsScript script → IsRunOf Two script journal → AreBounded journal
    → text ≡ rendering_of Two script.workers journal → IsOnlyOne script text journal
only_one script journal text law kept run bounded rendered =
    λ format other ran others told. law script format Two other journal kept ran run others bounded (told ∙ rendered)

-- the text of what a run gave
pub run_told : (script : ScriptParts) (parts : JournalParts) (text : List ℕ) → TextTellsJournal → IsScript script → HasRun script parts → AreBounded parts.journal
    → text ≡ rendering_of Two script.workers parts.journal → IsRunText script text
run_told script parts text law kept has bounded rendered = record {
  journal = parts.journal;
  run = has.journal;
  laws = has.laws;
  rendered = rendered;
  news = has.news;
  bounded = bounded;
  only = only_one script parts.journal text law kept has.journal bounded rendered;
}
