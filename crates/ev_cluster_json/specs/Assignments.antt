-- Assignments (`envoy.config.endpoint.v3.ClusterLoadAssignment`): their hosts, and the rules that they break.
use Rattle.std.specs.Prelude.{ℕ, ◌||◌, ◌==◌, List, map, Bool, nat_lt, Result, codes}
use Rattle.std.specs.List.{flat_map, sum_by}
use Rattle.serde_json.specs.Data.{Data}
use Rattle.ev_types.specs.Hosts.{HostRowParts}
use Rattle.ev_types.specs.declared.events.Profile.{Profile}
use Rattle.ev_types.specs.declared.limits.TheConstants.{MAX_WEIGHT_SUM}
use Rattle.ev_tree.specs.declared.broken.BrokenRules.{BrokenRules}
use Rattle.ev_tree.specs.declared.tables.EnumTable.TheVariants.{Health}
use Rattle.ev_tree.specs.Forms.{is_wrong, given_or, inside, listed, text_of, number_of, object_of, objects_of, enumeration_of}
use Rattle.ev_tree.specs.Addresses.{text_in_profile, port_in_profile, address_broken_in}
use Rattle.ev_tree.specs.Rules.{judged}
use Rattle.ev_tree.specs.Broken.{none_broken, either_broken, any_broken, least_of}
use Rattle.ev_cluster_json.specs.declared.groups.TheConstants.{MAX_PRIORITY}

-- ---- a host: an element of `lb_endpoints`

-- the object with the host's address
unfoldable pub endpoint_of : Data → Data
endpoint_of host = inside (object_of (codes "endpoint") host)

-- the weight: 1 where none is given
unfoldable pub weight_of : Data → ℕ
weight_of host = given_or 1 (number_of (codes "load_balancing_weight") host)

-- unknown, healthy and degraded hosts may be chosen
abbrev pub is_usable_status : ℕ → Bool
is_usable_status status = status == 0 || status == 1 || status == 5

unfoldable pub is_usable : Data → Bool
is_usable host = is_usable_status (given_or 0 (enumeration_of (codes "health_status") Health host))

unfoldable pub row_of : Profile → ℕ → Data → HostRowParts
row_of profile priority host = record {
  host = record { address = text_in_profile profile (endpoint_of host); port = port_in_profile profile (endpoint_of host) };
  weight = weight_of host;
  priority = priority;
  usable = is_usable host;
}

-- What a host breaks: what its address breaks, and what it breaks itself. V13: its weight is 0.
unfoldable pub host_broken : Profile → Data → BrokenRules
host_broken profile host = either_broken (address_broken_in profile (endpoint_of host)) (record none_broken {
  v6 =
      is_wrong (object_of (codes "endpoint") host)
      || is_wrong (enumeration_of (codes "health_status") Health host)
      || is_wrong (number_of (codes "load_balancing_weight") host);
  v13 = weight_of host == 0;
})

-- ---- a group of hosts: an element of `endpoints`

unfoldable pub hosts_of : Data → List Data
hosts_of group = listed (objects_of (codes "lb_endpoints") group)

unfoldable pub priority_of : Data → ℕ
priority_of group = given_or 0 (number_of (codes "priority") group)

-- What a group breaks: what one of its hosts breaks, and what it breaks itself. V13: its priority is too great, or the
-- weights of all its hosts, unusable ones too, sum to more than 32 bits hold.
unfoldable pub group_broken : Profile → Data → BrokenRules
group_broken profile group = either_broken (any_broken (host_broken profile) (hosts_of group)) (record none_broken {
  v6 = is_wrong (number_of (codes "priority") group) || is_wrong (objects_of (codes "lb_endpoints") group);
  v13 = nat_lt MAX_PRIORITY (priority_of group) || nat_lt MAX_WEIGHT_SUM (sum_by weight_of (hosts_of group));
})

unfoldable pub group_rows : Profile → Data → List HostRowParts
group_rows profile group = map (row_of profile (priority_of group)) (hosts_of group)

-- ---- an assignment

unfoldable pub groups_of : Data → List Data
groups_of tree = listed (objects_of (codes "endpoints") tree)

-- what an assignment breaks: what it breaks itself, and what one of its groups breaks
unfoldable pub assignment_broken : Profile → Data → BrokenRules
assignment_broken profile tree = either_broken (record none_broken {
  v6 = is_wrong (text_of (codes "cluster_name") tree) || is_wrong (objects_of (codes "endpoints") tree);
}) (any_broken (group_broken profile) (groups_of tree))

-- the hosts, in order, repeated ones too
unfoldable pub rows_of : Profile → Data → List HostRowParts
rows_of profile tree = flat_map (group_rows profile) (groups_of tree)

-- what an assignment reads as
abbrev pub assignment_reading : Profile → Data → Result (List HostRowParts) ℕ
assignment_reading profile tree = judged (least_of (assignment_broken profile tree)) (rows_of profile tree)
