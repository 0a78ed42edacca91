use Rattle.std.proofs.Common.{◌≡◌, ℕ, true, take}
use Rattle.ev_model.specs.Picture.{has_number}
use Rattle.ev_ledger.specs.Members.{is_open_at}
use Rattle.ev_retirement.specs.Closing.{FindsMore, is_found}
use Rattle.ev_retirement.proofs.closing.enter_on_each.Given as goal

abbrev pub invariant-loop-listener : goal.invariant-loop-listener
invariant-loop-listener l = record {
  entered : (number : ℕ) → has_number number (take l.listener-index l.listeners) ≡ true → (worker connection : ℕ) → is_open_at number worker connection l.ledger ≡ true
      → is_found l.closing worker connection ≡ true;
  more : FindsMore l.initial.closing l.closing;
}
