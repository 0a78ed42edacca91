use Rattle.std.proofs.Common.{true, refl, sym, ap, ◌∙◌}
use Rattle.ev_types.specs.declared.events.Answer.TheVariants.{Ignored, Moved}
use Rattle.ev_model.specs.World.{World}
use Rattle.ev_model.specs.Requests.{connect_requests}
use Rattle.ev_model.specs.Tidy.{tidy}
use Rattle.ev_state.proofs.StepLemmas.{where_false, stream_follows}
use Rattle.ev_state.proofs.MoveLemmas.{none-moved}
use Rattle.ev_state.proofs.TellLemmas.{quiet-changed}
use Rattle.ev_state.proofs.state.State.connect.Goals as goal

pub returns : goal.returns
returns g c = λ world follows.
    let closed = sym follows.stands.subscription.stream ∙ sym c.is_open.ensures ∙ c.if-is_open.false in
    let after : World = record world { stream = true } in
    let over = c.in_ok-tidy.ensures.over world after
    (stream_follows c.args.self.now c.set_stream.new.self true world follows (c.set_stream.ensures.stands world follows.stands.subscription))
    (c.made-made.ensures ∙ follows.stands.managers.made) (none-moved c.none-moved.result world after c.none-moved.ensures refl (quiet-changed c.none-moved.result.changed world after refl (λ k q. refl) refl refl)) in
    where_false c.tidy.new.self (Moved c.in_ok-requests.requests) c.tidy.new.moved world world.stream (world, Ignored) (tidy after, Moved (connect_requests world)) closed
    (record {
      kept = c.in_ok-tidy.ensures.kept;
      forgotten = c.in_ok-tidy.ensures.forgotten;
      follows = over.follows;
      later = over.later;
      answer = ap Moved (c.in_ok-requests.ensures world follows.stands);
      moved = over.moved;
    })
