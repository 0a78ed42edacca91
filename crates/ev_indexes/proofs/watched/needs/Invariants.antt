use Rattle.std.proofs.Common.{◌≡◌, ◌++◌}
use Rattle.ev_indexes.specs.Reads.{names_needed}
use Rattle.ev_indexes.proofs.watched.needs.Given as goal

abbrev pub invariant-loop-row : goal.invariant-loop-row
invariant-loop-row l = l.names.items ++ names_needed l.kind l.row-iterator ≡ names_needed l.kind l.table.rows
