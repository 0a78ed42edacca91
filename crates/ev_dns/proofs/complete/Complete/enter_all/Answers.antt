use Rattle.std.proofs.Common.{refl}
use Rattle.ev_expand.specs.Numbers.{guarded_so_far}
use Rattle.ev_dns.proofs.WaitingLemmas.{enters_more}
use Rattle.ev_dns.proofs.complete.Complete.enter_all.Goals as goal

pub loop-place-preserved : goal.loop-place-preserved
loop-place-preserved c =
    enters_more (guarded_so_far c.args.numbers.now) c.args.places.now c.loop-place.place-index _ c.args.self.now c.loop-place.self c.enter.new.self c.loop-place-test.true refl
    c.loop-place.invariant c.in_ok-enter.ensures
