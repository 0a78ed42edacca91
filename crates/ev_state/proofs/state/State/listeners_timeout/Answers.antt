use Rattle.std.proofs.Common.{Bool, true, cond, ◌||◌, refl, sym, subst, ◌∙◌}
use Rattle.std.specs.Prelude.{is_some}
use Rattle.ev_types.specs.declared.events.Answer.TheVariants.{Ignored}
use Rattle.ev_model.specs.World.{World}
use Rattle.ev_model.specs.Phase.{is_clusters}
use Rattle.ev_model.specs.Signals.{moved}
use Rattle.ev_indexes.proofs.SeenLemmas.{seen-stands}
use Rattle.ev_state.specs.InitTargets.{HaveBooted}
use Rattle.ev_state.specs.declared.state.State.{State}
use Rattle.ev_state.proofs.SignalLemmas.{targets_follow, not_true, not_false, ignores}
use Rattle.ev_state.proofs.StepLemmas.{where_true, where_false}
use Rattle.ev_state.proofs.MoveLemmas.{none-moved}
use Rattle.ev_state.proofs.TellLemmas.{quiet-changed}
use Rattle.ev_state.proofs.state.State.listeners_timeout.Goals as goal

pub returns-then-not-listeners_timeout : goal.returns-then-not-listeners_timeout
returns-then-not-listeners_timeout g c = λ world follows.
    let booted = follows.stands.targets in
    let after : World = record world { late_listeners = true } in
    let boots : HaveBooted c.listeners_timeout.new.self world =
    subst (λ (b : Bool). HaveBooted c.listeners_timeout.new.self (cond b after world)) c.if-not-listeners_timeout.true (c.listeners_timeout.ensures.stands world booted) in
    let state : State = record c.args.self.now { targets = c.listeners_timeout.new.self } in
    where_true state Ignored c.none.result world (is_clusters world.phase || (is_some world.first_listeners || world.late_listeners)) (world, Ignored) (moved world after)
    (not_false (is_clusters world.phase || (is_some world.first_listeners || world.late_listeners)) (sym (c.listeners_timeout.ensures.heard world booted) ∙ c.if-not-listeners_timeout.true))
    (ignores state c.none.result world c.none.ensures c.requires.kept c.requires.forgotten
    (targets_follow c.args.self.now c.listeners_timeout.new.self world world follows boots follows.stands.managers follows.stands.subscription refl refl refl))

pub returns : goal.returns
returns g c = λ world follows.
    let booted = follows.stands.targets in
    let had = follows.stands.subscription in
    let after : World = record world { late_listeners = true } in
    let boots : HaveBooted c.listeners_timeout.new.self after =
    subst (λ (b : Bool). HaveBooted c.listeners_timeout.new.self (cond b after world)) c.if-not-listeners_timeout.false (c.listeners_timeout.ensures.stands world booted) in
    where_false c.finish.new.self c.in_ok-told.told.0 c.in_ok-told.told.1 world (is_clusters world.phase || (is_some world.first_listeners || world.late_listeners)) (world, Ignored) (moved world after)
    (not_true (is_clusters world.phase || (is_some world.first_listeners || world.late_listeners)) (sym (c.listeners_timeout.ensures.heard world booted) ∙ c.if-not-listeners_timeout.false))
    (c.in_ok-told.ensures world after
    (targets_follow c.args.self.now c.listeners_timeout.new.self world after follows boots
    (seen-stands c.args.self.now.managers.core.state world after (record { rows = refl; made = refl; arrivals = refl; results = refl }) follows.stands.managers)
    (record { node = had.node; stream = had.stream; versions = had.versions; kept_once = had.kept_once })
    refl refl refl)
    refl (none-moved c.none-2.result world after c.none-2.ensures refl (quiet-changed c.none-2.result.changed world after refl (λ k q. refl) refl refl)))
