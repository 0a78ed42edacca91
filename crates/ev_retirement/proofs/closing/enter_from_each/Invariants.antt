use Rattle.std.proofs.Common.{◌≡◌, ℕ, true, take}
use Rattle.ev_model.specs.Picture.{has_number}
use Rattle.ev_ledger.specs.Members.{is_open_from}
use Rattle.ev_retirement.specs.Closing.{FindsMore, is_found}
use Rattle.ev_retirement.proofs.closing.enter_from_each.Given as goal

abbrev pub invariant-loop-number : goal.invariant-loop-number
invariant-loop-number l = record {
  entered : (number : ℕ) → has_number number (take l.number-index l.numbers) ≡ true → (worker connection : ℕ) → is_open_from number worker connection l.ledger ≡ true
      → is_found l.closing worker connection ≡ true;
  more : FindsMore l.initial.closing l.closing;
}
