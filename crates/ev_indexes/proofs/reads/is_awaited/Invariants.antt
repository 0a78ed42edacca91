use Rattle.std.proofs.Common.{◌≡◌, ◌≤◌, ◌+◌, false, take}
use Rattle.ev_lookups.specs.Keys.{named}
use Rattle.ev_indexes.specs.Reads.{is_one_waiting}
use Rattle.ev_indexes.proofs.reads.is_awaited.Given as goal

abbrev pub invariant-loop-number : goal.invariant-loop-number
invariant-loop-number g l = record {
  none : is_one_waiting (named l.kind l.name) l.watch l.table.rows (take l.number-index l.number-items) ≡ false;
  steps : l.steps ≤ l.initial.steps + l.number-index;
}
