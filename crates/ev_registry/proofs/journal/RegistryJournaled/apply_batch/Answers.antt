use Rattle.std.proofs.Common.{ap}
use Rattle.std.specs.Arc.{arc_value}
use Rattle.ev_actors.specs.Journals.{JournalParts}
use Rattle.ev_registry.proofs.BatchSteps.{enters_batch}
use Rattle.ev_registry.proofs.journal.RegistryJournaled.apply_batch.Goals as goal

pub invariant_of-self-2 : goal.invariant_of-self-2
invariant_of-self-2 c =
    let parts : JournalParts = record { format = c.self.inside.format; workers = c.self.inside.workers; node = c.self.inside.node; journal = c.self.inside.journal.items } in
    let given : JournalParts = record { format = c.self.inside.format; workers = c.self.inside.workers; node = c.self.inside.node; journal = c.as_slice.result.now } in
    enters_batch (arc_value c.in_ok-latest.latest) c.settle_after.new.proxy parts c.args.self.now.journaled given c.enter_batch-entered.new.journal.items c.args.worker.now c.args.at c.args.step
    c.in_ok-settled.settled.closed c.in_ok-settled.settled.moved c.in_ok-settled.settled.version
    c.self.invariant.run c.self.invariant.stepped (ap (λ r. r.journaled) c.self.view_is)
    (λ i. record { format = c.self.inside.format; workers = c.self.inside.workers; node = c.self.inside.node; journal = c.as_slice.ensures.value i })
    c.in_default.ensures.ok c.requires.works c.requires.within c.in_ok-settled.ensures.answer (c.in_ok-latest.ensures _ c.in_ok-settled.ensures.at) c.in_ok-settled.ensures.at
