use Rattle.std.proofs.Common.{◌≡◌, ℕ, List, ◌++◌, ap, ◌∙◌, rules}
use Rattle.ev_tls.specs.Places.{has_place, places_under}
use Rattle.ev_tls.proofs.PlaceLemmas.{wakes_more, has_more}
use Rattle.ev_tls.proofs.TestLemmas.{or_first}
use Rattle.ev_tls.proofs.waiting.wake.Goals as goal

pub loop-awaited-preserved : goal.loop-awaited-preserved
loop-awaited-preserved c =
    let taken : List ℕ = places_under c.loop-awaited.under c.awaited-item.result in
    let put : c.extend_from_slice.new.self.items ≡ c.loop-awaited.woken.items ++ taken = search rules in
    record {
      wakes = wakes_more c.args.told.now c.loop-awaited.awaited-index c.awaited-item.result _ c.loop-awaited.under _ c.loop-awaited.woken.items _ c.loop-awaited-test.true c.awaited-item.is
          c.loop-awaited.invariant.wakes put c.take.ensures.left;
      kept = λ n h. ap (λ xs. has_place xs n) put ∙ has_more c.loop-awaited.woken.items taken n ∙ or_first (has_place c.loop-awaited.woken.items n) (has_place taken n) (c.loop-awaited.invariant.kept n h);
    }
