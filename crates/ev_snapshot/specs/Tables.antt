-- Clusters and listeners by number.
use Rattle.std.specs.Prelude.{ℕ, ◌==◌, List, Option, find}
use Rattle.ev_model.specs.declared.pictures.ServedCluster.{ServedCluster}
use Rattle.ev_model.specs.declared.pictures.ServedListener.{ServedListener}

-- the first cluster of this number
abbrev pub cluster_numbered : List ServedCluster → ℕ → Option ServedCluster
cluster_numbered clusters number = find (λ (c : ServedCluster). c.number == number) clusters

-- the first listener of this number
abbrev pub listener_numbered : List ServedListener → ℕ → Option ServedListener
listener_numbered listeners number = find (λ (l : ServedListener). l.number == number) listeners
