use Rattle.std.proofs.Common.{ap}
use Rattle.std.specs.Arc.{arc_value}
use Rattle.ev_types.specs.Scripts.{items_in}
use Rattle.ev_types.specs.declared.events.Entry.{Entry}
use Rattle.ev_model.specs.World.{World}
use Rattle.ev_model.specs.Step.{step}
use Rattle.ev_actors.specs.Journals.{JournalParts, world_now}
use Rattle.ev_proxy.specs.Proxies.{IsAt}
use Rattle.ev_proxy.specs.declared.proxy.Proxy.{Proxy}
use Rattle.ev_registry.proofs.RunSteps.{at_but, defers, draws, enters, shows_entry}
use Rattle.ev_registry.proofs.journal.RegistryJournaled.apply.Goals as goal

pub invariant_of-self-2 : goal.invariant_of-self-2
invariant_of-self-2 c =
    let parts : JournalParts = record { format = c.self.inside.format; workers = c.self.inside.workers; node = c.self.inside.node; journal = c.self.inside.journal.items } in
    let given : JournalParts = record { format = c.self.inside.format; workers = c.self.inside.workers; node = c.self.inside.node; journal = c.as_slice.result.now } in
    let there : World = (step given.format (world_now given) c.args.actor c.args.event.now).0 in
    let proxy : Proxy = record c.step_after.new.proxy { deferred = c.enter.new.reaped } in
    let led : IsAt proxy there = at_but c.step_after.new.proxy c.enter.new.reaped there c.in_ok-answer.ensures.at in
    enters (arc_value c.in_ok-latest.latest) proxy parts c.args.self.now.journaled given c.enter.new.journal.items c.in_ok-entry.entry c.args.actor c.args.at c.args.step c.args.event.now c.in_ok-answer.answer
    c.self.invariant.run c.self.invariant.stepped (ap (λ r. r.journaled) c.self.view_is)
    (λ i. record { format = c.self.inside.format; workers = c.self.inside.workers; node = c.self.inside.node; journal = c.as_slice.ensures.value i })
    c.in_ok-enter.ensures.journal c.in_ok-entry.ensures
    c.requires.main c.requires.allowed c.requires.numbered c.in_ok-answer.ensures.answer (c.in_ok-latest.ensures there c.in_ok-answer.ensures.at) led

pub returns-clause-entry : goal.returns-clause-entry
returns-clause-entry c =
    shows_entry
    record { format = c.self.inside.format; workers = c.self.inside.workers; node = c.self.inside.node; journal = c.self.inside.journal.items }
    c.args.self.now.journaled
    record { format = c.self.inside.format; workers = c.self.inside.workers; node = c.self.inside.node; journal = c.as_slice.result.now }
    c.enter.new.journal.items c.in_ok-entry.entry c.args.actor c.args.at c.args.step c.args.event.now c.in_ok-answer.answer
    (ap (λ r. r.journaled) c.self.view_is)
    (λ i. record { format = c.self.inside.format; workers = c.self.inside.workers; node = c.self.inside.node; journal = c.as_slice.ensures.value i })
    c.in_ok-enter.ensures.journal c.in_ok-entry.ensures c.in_ok-answer.ensures.answer

pub returns-clause-drawn : goal.returns-clause-drawn
returns-clause-drawn c =
    draws
    record { format = c.self.inside.format; workers = c.self.inside.workers; node = c.self.inside.node; journal = c.self.inside.journal.items }
    c.args.self.now.journaled c.enter.new.journal.items c.in_ok-entry.entry c.args.event.now
    (ap (λ r. r.journaled) c.self.view_is) c.in_ok-enter.ensures.journal (ap (λ (e : Entry). items_in e.event) c.in_ok-entry.ensures)

pub returns-clause-deferred : goal.returns-clause-deferred
returns-clause-deferred c =
    defers
    record { format = c.self.inside.format; workers = c.self.inside.workers; node = c.self.inside.node; journal = c.self.inside.journal.items }
    c.args.self.now.journaled
    record { format = c.self.inside.format; workers = c.self.inside.workers; node = c.self.inside.node; journal = c.as_slice.result.now }
    c.args.event.now c.self.inside.deferred.0 c.args.self.now.deferred c.step_after.new.proxy.deferred.0 c.enter.new.deferred.0
    (ap (λ r. r.journaled) c.self.view_is)
    (λ i. record { format = c.self.inside.format; workers = c.self.inside.workers; node = c.self.inside.node; journal = c.as_slice.ensures.value i })
    (ap (λ r. r.deferred) c.self.view_is) c.in_ok-enter.ensures.deferred c.in_ok-answer.ensures.deferred
