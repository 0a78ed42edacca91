use Rattle.std.proofs.Common.{◌≡◌, ◌+◌, ◌≤◌, ◌++◌, length, take, vec_len, vec_capacity}
use Rattle.ev_chains.proofs.draining.push_all.Given as goal

abbrev pub invariant-loop-number : goal.invariant-loop-number
invariant-loop-number l = record {
  items : l.list.items ≡ l.initial.list.items ++ take l.number-index l.numbers;
  room : vec_len l.list + length l.numbers ≤ vec_capacity l.list + l.number-index;
  capacity : vec_capacity l.initial.list ≤ vec_capacity l.list;
}
