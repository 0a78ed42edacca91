use Rattle.std.proofs.Common.{◌≡◌, map, drop}
use Rattle.ev_model.specs.declared.pictures.ServedCluster.{ServedCluster}
use Rattle.ev_snapshot.specs.Changes.{without}
use Rattle.ev_snapshot.specs.declared.changes.ClusterChange.{ClusterChange}
use Rattle.ev_snapshot.proofs.parts.without_clusters.Given as goal

abbrev pub invariant-loop-change : goal.invariant-loop-change
invariant-loop-change l =
    without (λ (x : ServedCluster). x.number) (map (λ (change : ClusterChange). change.number) (drop l.change-index l.changes)) l.left
    ≡ without (λ (x : ServedCluster). x.number) (map (λ (change : ClusterChange). change.number) l.changes) l.fn.clusters
