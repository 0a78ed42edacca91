use Rattle.std.proofs.Common.{◌≡◌, ◌+◌, ℕ, cond, take}
use Rattle.ev_indexes.specs.Due.{is_one_of}
use Rattle.ev_indexes.specs.Ready.{is_due_at}
use Rattle.ev_indexes.proofs.ready.refresh.Given as goal

abbrev pub invariant-loop-number : goal.invariant-loop-number
invariant-loop-number g l = record {
  due : (n : ℕ) → is_one_of l.due n ≡ cond (is_one_of (take l.number-index l.numbers) n) (is_due_at l.watches l.results n l.table.rows) (is_one_of l.initial.due n);
  steps : l.steps ≡ l.initial.steps + l.number-index;
}
