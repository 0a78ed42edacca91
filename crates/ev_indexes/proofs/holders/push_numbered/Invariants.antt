use Rattle.std.proofs.Common.{◌≡◌, ◌++◌, take}
use Rattle.ev_indexes.specs.Addresses.{lives_numbered}
use Rattle.ev_indexes.proofs.holders.push_numbered.Given as goal

abbrev pub invariant-loop-number : goal.invariant-loop-number
invariant-loop-number l = l.lives.items ≡ l.initial.lives.items ++ lives_numbered l.table.rows (take l.number-index l.numbers)
