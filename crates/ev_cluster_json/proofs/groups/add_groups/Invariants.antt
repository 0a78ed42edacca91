use Rattle.std.proofs.Common.{map, take}
use Rattle.serde_json.specs.View.{view}
use Rattle.ev_cluster_json.specs.Assignments.{group_broken}
use Rattle.ev_cluster_json.specs.Made.{made_group}
use Rattle.ev_cluster_json.specs.Tallies.{GainsAll}
use Rattle.ev_cluster_json.proofs.groups.add_groups.Given as goal

abbrev pub invariant-loop-group : goal.invariant-loop-group
invariant-loop-group l =
    GainsAll (group_broken l.profile) (made_group l.profile) l.fn.tally l.tally (map view (take l.group-index l.groups))
