use Rattle.std.proofs.Common.{◌<◌, length, arith}
use Rattle.ev_retirement.proofs.FoundLemmas.{finds_after, one_more_entered}
use Rattle.ev_retirement.proofs.closing.Closing.enter_each.Goals as goal

pub loop-place-preserved : goal.loop-place-preserved
loop-place-preserved c =
    let below : c.loop-place.place-index < length c.args.places.now = omega arith in
    record {
      entered = one_more_entered c.args.places.now c.loop-place.place-index _ c.loop-place.self c.enter.new.self below c.enter.ensures.more c.in_ok-enter.ensures.entered
          c.loop-place.invariant.entered;
      more = finds_after c.args.self.now c.loop-place.self c.enter.new.self c.loop-place.invariant.more c.enter.ensures.more;
    }
