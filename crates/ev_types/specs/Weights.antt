-- Weighted targets.
use Rattle.std.specs.Prelude.{ℕ, ◌≤◌, List, sum_by}
use Rattle.ev_types.specs.declared.limits.TheConstants.{MAX_WEIGHT_SUM}
use Rattle.ev_types.specs.declared.routes.WeightedCluster.{WeightedCluster}

-- what the weights add up to
abbrev pub weight_sum : List WeightedCluster → ℕ
weight_sum clusters = sum_by (λ c. c.weight) clusters

-- a sum that a pick can be taken of
pub record HasWeight (clusters : List WeightedCluster) : Type 0 where
  pub some : 1 ≤ weight_sum clusters
  pub small : weight_sum clusters ≤ MAX_WEIGHT_SUM
