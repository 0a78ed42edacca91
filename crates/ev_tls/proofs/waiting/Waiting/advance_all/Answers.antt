use Rattle.std.proofs.Common.{refl}
use Rattle.ev_expand.specs.Numbers.{guarded_so_far}
use Rattle.ev_tls.proofs.WaitingLemmas.{advances_more}
use Rattle.ev_tls.proofs.waiting.Waiting.advance_all.Goals as goal

pub loop-place-preserved : goal.loop-place-preserved
loop-place-preserved c = λ had.
    let so_far = c.loop-place.invariant had in
    advances_more c.args.told.now (guarded_so_far c.args.numbers.now) c.args.places.now c.loop-place.place-index _ c.args.self.now c.loop-place.self c.advance.new.self c.loop-place.finished c.advance.new.finished
    c.loop-place-test.true refl so_far (c.in_ok-advance.ensures so_far.passed)
