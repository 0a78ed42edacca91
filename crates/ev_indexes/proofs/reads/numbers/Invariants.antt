use Rattle.std.proofs.Common.{◌≡◌, ◌++◌}
use Rattle.ev_indexes.specs.Indexes.{numbers_where}
use Rattle.ev_indexes.specs.Reads.{lives_as}
use Rattle.ev_indexes.proofs.reads.numbers.Given as goal

abbrev pub invariant-loop-row : goal.invariant-loop-row
invariant-loop-row l = l.numbers.items ++ numbers_where (lives_as l.kind) l.row-iterator ≡ numbers_where (lives_as l.kind) l.table.rows
