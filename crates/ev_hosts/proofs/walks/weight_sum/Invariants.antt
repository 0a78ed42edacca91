use Rattle.std.proofs.Common.{◌≡◌, ◌≤◌, ◌*◌, ◌-◌, ◌==◌, sum, drop, map, length, true}
use Rattle.std.specs.List.{list_any}
use Rattle.ev_types.specs.Hosts.{HostRowParts}
use Rattle.ev_model.specs.Choice.{weight_at}
use Rattle.ev_hosts.specs.Chosen.{chosen_by}
use Rattle.ev_hosts.proofs.walks.weight_sum.Given as goal

abbrev pub invariant-loop-place : goal.invariant-loop-place
invariant-loop-place l = record {
  so_far : l.sum ≡ sum (map (weight_at l.priority) (chosen_by (drop l.place l.marks) (drop l.place l.rows)));
  bound : l.sum ≤ (length l.rows - l.place) * 4294967295;
  some : list_any (λ (r : HostRowParts). r.priority == l.priority) (chosen_by (drop l.place l.marks) (drop l.place l.rows)) ≡ true → 1 ≤ l.sum;
}
