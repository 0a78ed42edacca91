-- The journal of a replay has the laws, and its entries keep what their types keep.
use Rattle.std.proofs.Common.{◌≡◌, ◌∙◌, subst}
use Rattle.ev_types.specs.declared.journals.Format.TheVariants.{Two}
use Rattle.ev_journal.specs.Rendering.{rendering_of}
use Rattle.ev_journal_read.specs.OneJournal.{AreBounded}
use Rattle.ev_app.proofs.ReplayLemmas.{text_of}
use Rattle.ev_app.proofs.replay.replay_text.Goals as goal

pub returns-clause-text : goal.returns-clause-text
returns-clause-text c =
    let entries : c.journal.result.now ≡ c.in_ok-registry.registry.journaled.journal = c.journal.ensures.entries in
    text_of c.args.script.now c.in_ok-registry.registry.journaled c.in_ok-text.field-0.items c.runs_have_the_laws.ensures c.in_ok-registry.ensures c.journal.ensures.run
    (c.in_ok-text.ensures.text ∙ (λ i. rendering_of Two (c.workers_of-workers.ensures.workers i) (entries i)))
    (subst AreBounded entries c.in_ok-text.ensures.bounded)
