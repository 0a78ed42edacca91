use Rattle.std.proofs.Common.{◌≡◌, ◌≤◌, ◌<◌, ℕ, true, length, get_or}
use Rattle.ev_tls.specs.Places.{has_place}
use Rattle.ev_tls.proofs.waiting.take_up.Given as goal

abbrev pub invariant-loop-place : goal.invariant-loop-place
invariant-loop-place l = record {
  counted : length l.passed.items ≡ l.place;
  passed : (n : ℕ) → get_or l.passed.items n 0 ≡ get_or l.initial.passed.items n 0;
  taken : (n : ℕ) → length l.initial.passed.items ≤ n → n < l.place → has_place l.places.items n ≡ true;
}
