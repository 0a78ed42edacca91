use Rattle.std.proofs.Common.{refl, ◌∙◌}
use Rattle.ev_expand.specs.Numbers.{guarded_so_far}
use Rattle.ev_dns.proofs.WaitingLemmas.{advances_more}
use Rattle.ev_dns.proofs.waiting.Waiting.advance_all.Goals as goal

pub loop-place-preserved : goal.loop-place-preserved
loop-place-preserved c = record {
  counted = c.advance.ensures.counted ∙ c.loop-place.invariant.counted;
  passed = λ had. c.in_ok-advance.ensures.passed (c.loop-place.invariant.passed had);
  advances = λ had.
      advances_more c.args.answers.now (guarded_so_far c.args.numbers.now) c.args.places.now c.loop-place.place-index _ c.args.self.now.under c.loop-place.self.under c.advance.new.self.under
      c.loop-place.finished.items c.advance.new.finished.items c.loop-place-test.true refl (c.loop-place.invariant.advances had)
      (c.in_ok-advance.ensures.advances (c.loop-place.invariant.passed had));
}
