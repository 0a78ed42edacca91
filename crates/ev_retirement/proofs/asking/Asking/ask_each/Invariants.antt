use Rattle.std.proofs.Common.{◌≡◌, ℕ, true, take}
use Rattle.ev_model.specs.Picture.{has_number}
use Rattle.ev_retirement.specs.Asking.{AsksMore, is_asked}
use Rattle.ev_retirement.proofs.asking.Asking.ask_each.Given as goal

abbrev pub invariant-loop-number : goal.invariant-loop-number
invariant-loop-number l = record {
  asked : (number : ℕ) → has_number number (take l.number-index l.numbers) ≡ true → is_asked l.self number ≡ true;
  more : AsksMore l.initial.self l.self;
}
