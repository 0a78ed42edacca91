use Rattle.std.proofs.Common.{◌≡◌, ℕ, true, take}
use Rattle.ev_ledger.specs.Members.{has_place}
use Rattle.ev_retirement.specs.Closing.{FindsMore, is_found}
use Rattle.ev_retirement.proofs.closing.Closing.enter_each.Given as goal

abbrev pub invariant-loop-place : goal.invariant-loop-place
invariant-loop-place l = record {
  entered : (worker connection : ℕ) → has_place worker connection (take l.place-index l.places) ≡ true → is_found l.self worker connection ≡ true;
  more : FindsMore l.initial.self l.self;
}
