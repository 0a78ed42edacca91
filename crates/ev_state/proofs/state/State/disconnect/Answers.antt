use Rattle.std.proofs.Common.{false, refl, sym, ◌∙◌}
use Rattle.ev_types.specs.declared.events.Answer.TheVariants.{Ignored, Done}
use Rattle.ev_model.specs.World.{World}
use Rattle.ev_model.specs.Tidy.{tidy}
use Rattle.ev_state.proofs.StepLemmas.{where_true, stream_follows}
use Rattle.ev_state.proofs.MoveLemmas.{none-moved}
use Rattle.ev_state.proofs.TellLemmas.{quiet-changed}
use Rattle.ev_state.proofs.state.State.disconnect.Goals as goal

pub returns : goal.returns
returns g c = λ world follows.
    let open_now = sym follows.stands.subscription.stream ∙ sym c.is_open.ensures ∙ c.if-not-is_open.false in
    let after : World = record world { stream = false } in
    let over = c.in_ok-tidy.ensures.over world after
    (stream_follows c.args.self.now c.set_stream.new.self false world follows (c.set_stream.ensures.stands world follows.stands.subscription))
    (c.made-made.ensures ∙ follows.stands.managers.made) (none-moved c.none-moved.result world after c.none-moved.ensures refl (quiet-changed c.none-moved.result.changed world after refl (λ k q. refl) refl refl)) in
    where_true c.tidy.new.self Done c.tidy.new.moved world world.stream (tidy after, Done) (world, Ignored) open_now
    (record { kept = c.in_ok-tidy.ensures.kept; forgotten = c.in_ok-tidy.ensures.forgotten; follows = over.follows; later = over.later; answer = refl; moved = over.moved })
