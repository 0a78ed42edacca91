use Rattle.std.proofs.Common.{ℕ, List, ◌++◌, refl, sym, ap, subst, ◌∙◌}
use Rattle.ev_subscription.specs.Subscriptions.{HasVersions}
use Rattle.ev_types.specs.declared.events.Answer.TheVariants.{Ignored}
use Rattle.ev_model.specs.World.{World}
use Rattle.ev_model.specs.Signals.{moved, with_end, forget_version}
use Rattle.ev_model.specs.Versions.{is_bounded}
use Rattle.ev_indexes.proofs.SeenLemmas.{seen-stands}
use Rattle.ev_state.proofs.SignalLemmas.{ignores, ended_follows, end_draws, bounded_is_watched}
use Rattle.ev_state.proofs.MoveLemmas.{told-have}
use Rattle.ev_state.specs.Changed.{dependents_in}
use Rattle.ev_state.specs.Retirements.{HaveRetired}
use Rattle.ev_state.proofs.TellLemmas.{ended-changed}
use Rattle.ev_state.proofs.StepLemmas.{where_true, where_false}
use Rattle.ev_state.proofs.state.State.ttl_expired.Goals as goal

pub returns-then-not-is_bounded : goal.returns-then-not-is_bounded
returns-then-not-is_bounded g c = λ world follows.
    where_false c.args.self.now Ignored c.none.result world (is_bounded world.versions c.args.kind c.args.name.now)
    (moved world (with_end c.args.kind c.args.name.now (forget_version c.args.kind c.args.name.now world))) (world, Ignored)
    (ap (is_bounded world.versions c.args.kind) (sym c.as_str.ensures.bytes) ∙ sym (c.is_bounded.ensures.stands world follows.stands.subscription) ∙ c.if-not-is_bounded.true)
    (ignores c.args.self.now c.none.result world c.none.ensures c.requires.kept c.requires.forgotten follows)

pub returns : goal.returns
returns g c = λ world follows.
    let bounded = ap (is_bounded world.versions c.args.kind) (sym c.as_str.ensures.bytes) ∙ sym (c.is_bounded.ensures.stands world follows.stands.subscription) ∙ c.if-not-is_bounded.false in
    let m = c.args.self.now.managers in
    let forgotten : World = forget_version c.args.kind c.args.name.now world in
    let after : World = with_end c.args.kind c.args.name.now forgotten in
    let stand = seen-stands m.core.state world forgotten (record { rows = refl; made = refl; arrivals = refl; results = refl }) follows.stands.managers in
    let stand_after = c.in_ok-retired.ensures.stands forgotten stand (bounded_is_watched m c.args.kind c.args.name.now world follows.stands.managers follows.heard bounded) in
    let have = told-have c.in_ok-retired.retired m c.end.new.self world after follows.stands.managers stand_after c.in_ok-retired.ensures.retired in
    where_true c.finish.new.self c.in_ok-told.told.0 c.in_ok-told.told.1 world (is_bounded world.versions c.args.kind c.args.name.now) (moved world after) (world, Ignored) bounded
    (c.in_ok-told.ensures world after
    (ended_follows c.args.self.now c.end.new.self c.forget.new.self c.args.kind c.args.name.now world follows
    stand_after
    (subst (λ (n : List ℕ). HasVersions c.forget.new.self (forget_version c.args.kind n world)) c.as_str-2.ensures.bytes (c.forget.ensures.stands world follows.stands.subscription)))
    (end_draws c.args.kind c.args.name.now forgotten)
    (record {
      retired = subst (λ (ns : List ℕ). HaveRetired ns world after) (sym c.in_ok-moved.ensures.retired) have;
      changed = ended-changed c.in_ok-moved.moved.changed c.put_dependents.new.changed c.in_ok-retired.retired m world after c.in_ok-moved.ensures.changed follows.stands.managers
          have c.args.kind c.args.name.now refl
          (c.in_ok-put_dependents.ensures ∙ (λ i. c.new-changed.ensures.empty i ++ dependents_in m.core.state c.args.kind (c.as_str-3.ensures.bytes i)));
    }))
