use Rattle.std.proofs.Common.{◌≡◌, map, min, take}
use Rattle.std.specs.List.{sum_by}
use Rattle.serde_json.specs.View.{view}
use Rattle.ev_cluster_json.specs.Assignments.{weight_of, host_broken}
use Rattle.ev_cluster_json.specs.Made.{host_rows}
use Rattle.ev_cluster_json.specs.Tallies.{GainsAll}
use Rattle.ev_cluster_json.proofs.groups.add_hosts.Given as goal

abbrev pub invariant-loop-host : goal.invariant-loop-host
invariant-loop-host l =
    let seen = map view (take l.host-index l.hosts) in
    record {
      weight : l.sum ≡ min (sum_by weight_of seen) 18446744073709551615;
      gains : GainsAll (host_broken l.profile) (host_rows l.profile l.rank) l.fn.tally l.tally seen;
    }
