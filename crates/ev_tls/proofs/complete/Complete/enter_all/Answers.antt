use Rattle.ev_expand.specs.Numbers.{guarded_so_far}
use Rattle.ev_tls.proofs.CompleteLemmas.{enters_more}
use Rattle.ev_tls.proofs.complete.Complete.enter_all.Goals as goal

pub loop-place-preserved : goal.loop-place-preserved
loop-place-preserved c =
    enters_more (guarded_so_far c.args.numbers.now) c.loop-place.yielded c.in-Some.place c.args.self.now c.loop-place.self c.enter.new.self c.loop-place.invariant c.in_ok-enter.ensures
