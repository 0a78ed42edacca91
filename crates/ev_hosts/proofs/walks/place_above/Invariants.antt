use Rattle.std.proofs.Common.{◌≡◌, ◌≤◌, ◌+◌, sum, drop, map}
use Rattle.ev_model.specs.Choice.{place_above, weight_at}
use Rattle.ev_hosts.specs.Chosen.{chosen_by}
use Rattle.ev_hosts.proofs.PlaceLemmas.{above}
use Rattle.ev_hosts.proofs.walks.place_above.Given as goal

abbrev pub invariant-loop-place : goal.invariant-loop-place
invariant-loop-place l = record {
  rest : place_above l.n (map (weight_at l.priority) (chosen_by l.marks l.rows))
      ≡ above l.n l.sum l.chosen (map (weight_at l.priority) (chosen_by (drop l.place l.marks) (drop l.place l.rows)));
  so_far : l.sum + sum (map (weight_at l.priority) (chosen_by (drop l.place l.marks) (drop l.place l.rows))) ≡ sum (map (weight_at l.priority) (chosen_by l.marks l.rows));
  few : l.chosen ≤ l.place;
}
