use Rattle.std.proofs.Common.{◌≡◌, ◌≤◌, drop, length}
use Rattle.ev_types.specs.SameHosts.{rows_same}
use Rattle.ev_hosts.specs.Chosen.{chosen_by}
use Rattle.ev_hosts.proofs.walks.are_same.Given as goal

abbrev pub invariant-loop-place : goal.invariant-loop-place
invariant-loop-place l = record {
  within : l.other ≤ length l.other_rows;
  rest : rows_same (chosen_by l.marks l.rows) (chosen_by l.other_marks l.other_rows)
      ≡ rows_same (chosen_by (drop l.place l.marks) (drop l.place l.rows)) (chosen_by (drop l.other l.other_marks) (drop l.other l.other_rows));
  long : length (chosen_by (drop l.place l.marks) (drop l.place l.rows)) ≡ length (chosen_by (drop l.other l.other_marks) (drop l.other l.other_rows));
}
