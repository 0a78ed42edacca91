use Rattle.std.proofs.Common.{◌≡◌, ◌++◌, take}
use Rattle.std.specs.List.{flat_map}
use Rattle.ev_snapshot.specs.Touched.{cluster_touches}
use Rattle.ev_snapshot.proofs.differences.push_clusters.Given as goal

abbrev pub invariant-loop-change : goal.invariant-loop-change
invariant-loop-change l = l.numbers.items ≡ l.initial.numbers.items ++ flat_map (cluster_touches l.before) (take l.change-index l.changes)
