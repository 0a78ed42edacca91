use Rattle.std.proofs.Common.{◌≡◌, ◌-◌, ◌^◌, take, min}
use Rattle.ev_types.specs.Weights.{weight_sum}
use Rattle.ev_route_json.proofs.targets.has_weight.Given as goal

abbrev pub invariant-loop-cluster : goal.invariant-loop-cluster
invariant-loop-cluster l = l.sum ≡ min (weight_sum (take l.cluster-index l.clusters)) (2 ^ 64 - 1)
