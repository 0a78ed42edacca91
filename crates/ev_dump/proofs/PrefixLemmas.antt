-- Dumps of journals that agree so far.
use Rattle.std.proofs.Common.{◌≡◌, ◌∷◌, ◌++◌, [], ℕ, List, take, sym, ap, subst, ◌∙◌}
use Rattle.serde_json.specs.Written.{compact_text}
use Rattle.ev_types.specs.declared.events.Entry.{Entry}
use Rattle.ev_types.specs.declared.journals.Format.{Format}
use Rattle.ev_model.specs.World.{World, opening}
use Rattle.ev_model.specs.Runs.{RunsFrom, world_after}
use Rattle.ev_model.specs.Finding.{journal_told}
use Rattle.ev_actors.specs.Journals.{JournalParts, world_now}
use Rattle.ev_registry.specs.Views.{view_of}
use Rattle.ev_dump.specs.Fronts.{IsFront}
use Rattle.ev_dump.proofs.FrontLemmas.{fronts_are_runs}
use Rattle.ev_dump.specs.Texts.{dump_text, dump_tree}
use Rattle.ev_dump.specs.Dumps.{DumpsByPrefix}
use Rattle.ev_dump.proofs.AlikeLemmas.{Alike, run_alike}

-- worlds that are alike are shown as one
shown_alike : (world other : World) → Alike world other → view_of other ≡ view_of world
shown_alike world other alike = ap view_of alike.rest

text_by : (parts others : JournalParts) → parts.journal ≡ others.journal → view_of (world_now others) ≡ view_of (world_now parts) → dump_text parts ≡ dump_text others
unfolding dump_text
text_by parts others journal shown = λ i. compact_text (dump_tree (sym shown i) (journal i)) ++ 10 ∷ []

-- one dump of entries that are a run both for this many workers and a node and for others
one_text : (format : Format) (workers others : ℕ) (node other : List ℕ) (entries more : List Entry) → entries ≡ more
    → RunsFrom format workers (opening workers node) entries → RunsFrom format others (opening others other) more
    → dump_text record { format = format; workers = workers; node = node; journal = entries }
    ≡ dump_text record { format = format; workers = others; node = other; journal = more }
one_text format workers others node other entries more same run there =
    let begun : World = opening others other in
    let here : RunsFrom format others begun entries = subst (RunsFrom format others begun) (sym same) there in
    let alike : view_of (world_after format begun entries) ≡ view_of (world_after format (opening workers node) entries) =
    shown_alike (world_after format (opening workers node) entries) (world_after format begun entries)
    (run_alike format workers others node other entries run here) in
    text_by (record { format = format; workers = workers; node = node; journal = entries })
    (record { format = format; workers = others; node = other; journal = more }) same
    (ap (λ (es : List Entry). view_of (world_after format begun es)) (sym same) ∙ alike)

pub by_prefix : DumpsByPrefix
by_prefix format script other rows others entries text another kept also agree one two =
    let front : IsFront format script rows entries = fronts_are_runs format script rows entries kept one.legal one.ends in
    let there : IsFront format other others entries = fronts_are_runs format other others entries also two.legal two.ends in
    one.line
    ∙ one_text format script.workers other.workers script.node other.node (take entries (journal_told script rows)) (take entries (journal_told other others))
    agree front.run.answers there.run.answers
    ∙ sym two.line
