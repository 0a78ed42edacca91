use Rattle.std.proofs.Common.{◌++◌, [], ◌∷◌, refl, sym, ◌∙◌}
use Rattle.ev_types.specs.declared.events.Answer.TheVariants.{Ignored}
use Rattle.ev_types.specs.declared.rows.Arrival.TheVariants.{TimedOut}
use Rattle.ev_lookups.specs.Keys.{named}
use Rattle.ev_model.specs.World.{World}
use Rattle.ev_model.specs.Rows.{arrived}
use Rattle.ev_model.specs.Signals.{is_awaited, moved}
use Rattle.ev_state.proofs.SignalLemmas.{managers_follow, due_is_watched, ignores}
use Rattle.ev_state.proofs.StepLemmas.{where_true, where_false}
use Rattle.ev_state.proofs.MoveLemmas.{none-moved}
use Rattle.ev_state.proofs.TellLemmas.{timeout-changed}
use Rattle.ev_state.proofs.state.State.name_timeout.Goals as goal

pub arrive-requires-clause-watched : goal.arrive-requires-clause-watched
arrive-requires-clause-watched g c =
    due_is_watched c.args.self.now.managers.core.state (named c.args.kind c.args.name.now) (sym c.timeout_due.ensures.rows ∙ c.if-not-timeout_due.false)

pub returns-then-not-timeout_due : goal.returns-then-not-timeout_due
returns-then-not-timeout_due g c = λ world follows.
    where_false c.args.self.now Ignored c.none.result world (is_awaited world.arrivals world.rows c.args.kind c.args.name.now)
    (moved world (record world { arrivals = world.arrivals ++ arrived world.made c.args.kind TimedOut c.args.name.now ∷ [] })) (world, Ignored)
    (sym (c.timeout_due.ensures.world world follows.stands.managers) ∙ c.if-not-timeout_due.true)
    (ignores c.args.self.now c.none.result world c.none.ensures c.requires.kept c.requires.forgotten follows)

pub returns : goal.returns
returns g c = λ world follows.
    let after : World = record world { arrivals = world.arrivals ++ arrived world.made c.args.kind TimedOut c.args.name.now ∷ [] } in
    where_true c.finish.new.self c.in_ok-told.told.0 c.in_ok-told.told.1 world (is_awaited world.arrivals world.rows c.args.kind c.args.name.now) (moved world after) (world, Ignored)
    (sym (c.timeout_due.ensures.world world follows.stands.managers) ∙ c.if-not-timeout_due.false)
    (c.in_ok-told.ensures world after
    (managers_follow c.args.self.now c.arrive.new.self world after follows (c.in_ok-arrive.ensures.stands world follows.stands.managers) refl refl refl
    (record { first_clusters = refl; first_listeners = refl; late_clusters = refl; late_listeners = refl; phase = refl }) refl)
    refl (none-moved c.none-2.result world after c.none-2.ensures refl (timeout-changed c.none-2.result.changed c.args.kind c.args.name.now world)))
