-- The text of a run.
use Rattle.std.proofs.Common.{◌≡◌, ◌∙◌, subst}
use Rattle.ev_types.specs.declared.journals.Format.TheVariants.{Two}
use Rattle.ev_journal.specs.Rendering.{rendering_of}
use Rattle.ev_journal_read.specs.OneJournal.{AreBounded}
use Rattle.ev_app.proofs.RunLemmas.{run_told}
use Rattle.ev_app.proofs.run.run_text.Goals as goal

pub returns-clause-text : goal.returns-clause-text
returns-clause-text g c =
    let entries : c.journal.result.now ≡ c.in_ok-registry.registry.journaled.journal = c.journal.ensures.entries in
    run_told c.args.script.now c.in_ok-registry.registry.journaled c.in_ok-text.field-0.items c.text_tells_journal.ensures c.workers_of-workers.ensures.kept c.in_ok-registry.ensures
    (subst AreBounded entries c.in_ok-text.ensures.bounded)
    (c.in_ok-text.ensures.text ∙ (λ i. rendering_of Two (c.workers_of-workers.ensures.workers i) (entries i)))
