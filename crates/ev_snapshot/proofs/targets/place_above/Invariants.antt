use Rattle.std.proofs.Common.{◌≡◌, sum, take, map}
use Rattle.ev_types.specs.declared.routes.WeightedCluster.{WeightedCluster}
use Rattle.ev_model.specs.Choice.{place_above}
use Rattle.ev_snapshot.proofs.Places.{place_from}
use Rattle.ev_snapshot.proofs.targets.place_above.Given as goal

abbrev pub invariant-loop-place : goal.invariant-loop-place
invariant-loop-place l = record {
  rest : place_above l.n (map (λ (c : WeightedCluster). c.weight) l.clusters) ≡ place_from (λ (c : WeightedCluster). c.weight) l.clusters l.n l.place;
  so_far : l.sum ≡ sum (take l.place (map (λ (c : WeightedCluster). c.weight) l.clusters));
}
