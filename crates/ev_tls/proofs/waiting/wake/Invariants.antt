use Rattle.std.proofs.Common.{◌≡◌, ℕ, true, take}
use Rattle.ev_tls.specs.Places.{has_place}
use Rattle.ev_tls.specs.Waiting.{Wakes}
use Rattle.ev_tls.proofs.waiting.wake.Given as goal

abbrev pub invariant-loop-awaited : goal.invariant-loop-awaited
invariant-loop-awaited l = record {
  wakes : Wakes (take l.awaited-index l.told) l.initial.under l.under l.woken.items;
  kept : (n : ℕ) → has_place l.initial.woken.items n ≡ true → has_place l.woken.items n ≡ true;
}
