use Rattle.std.proofs.Common.{◌≡◌, take}
use Rattle.ev_chains.proofs.changes.plain_numbers.Given as goal

abbrev pub invariant-loop-number : goal.invariant-loop-number
invariant-loop-number l = l.plain.items ≡ take l.number-index l.numbers
