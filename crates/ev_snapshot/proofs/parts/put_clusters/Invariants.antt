use Rattle.std.proofs.Common.{◌≡◌, drop}
use Rattle.ev_snapshot.specs.Changes.{put_clusters}
use Rattle.ev_snapshot.proofs.parts.put_clusters.Given as goal

abbrev pub invariant-loop-change : goal.invariant-loop-change
invariant-loop-change l = put_clusters (drop l.change-index l.changes) l.all ≡ put_clusters l.changes l.fn.clusters
