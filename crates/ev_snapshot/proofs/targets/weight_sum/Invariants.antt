use Rattle.std.proofs.Common.{◌≡◌, take}
use Rattle.ev_types.specs.Weights.{weight_sum}
use Rattle.ev_snapshot.proofs.targets.weight_sum.Given as goal

abbrev pub invariant-loop-cluster : goal.invariant-loop-cluster
invariant-loop-cluster l = l.sum ≡ weight_sum (take l.cluster-index l.clusters)
