-- Names and rows that are made on the way, where their parts allow it.
use Rattle.std.specs.Prelude.{ℕ, ◌==◌, List, [], Bool, if◌then◌else◌, Option, Some, None, option_map, option_and_then, nat_le, option_to_list}
use Rattle.std.specs.List.{flat_map}
use Rattle.serde_json.specs.Data.{Data}
use Rattle.ev_types.specs.Hosts.{HostRowParts}
use Rattle.ev_types.specs.declared.clusters.Cluster.{Cluster}
use Rattle.ev_types.specs.declared.clusters.Discovery.{Discovery}
use Rattle.ev_types.specs.declared.clusters.Discovery.TheVariants.{Static, Eds, Elsewhere}
use Rattle.ev_types.specs.declared.events.Profile.{Profile}
use Rattle.ev_tree.specs.Addresses.{text_in_profile, port_in_profile}
use Rattle.ev_tree.specs.Rules.{is_name}
use Rattle.ev_cluster_json.specs.declared.groups.TheConstants.{MAX_PRIORITY}
use Rattle.ev_cluster_json.specs.declared.sockets.ClusterSecrets.{ClusterSecrets}
use Rattle.ev_cluster_json.specs.Assignments.{endpoint_of, weight_of, is_usable, priority_of, hosts_of, groups_of}

-- the name that a text is, if it is one
abbrev pub name_in : List ℕ → Option (List ℕ)
name_in bytes = if is_name bytes then Some bytes else None

-- a row of these parts, if the address is one and the weight isn't 0
abbrev pub row_with : List ℕ → ℕ → ℕ → ℕ → Bool → Option HostRowParts
row_with address port weight priority usable =
    if weight == 0 then None
    else option_map (λ name. record { host = record { address = name; port = port }; weight = weight; priority = priority; usable = usable }) (name_in address)

-- the row that is made of a host
unfoldable pub made_row : Profile → ℕ → Data → Option HostRowParts
made_row profile priority host =
    row_with (text_in_profile profile (endpoint_of host)) (port_in_profile profile (endpoint_of host)) (weight_of host) priority (is_usable host)

-- that row, or none, as a list
abbrev pub host_rows : Profile → ℕ → Data → List HostRowParts
host_rows profile priority host = option_to_list (made_row profile priority host)

-- a priority, or 0 where it is too great
abbrev pub rank_of : ℕ → ℕ
rank_of priority = if nat_le priority MAX_PRIORITY then priority else 0

-- the rows that are made of a group of hosts, and of all groups
unfoldable pub made_group : Profile → Data → List HostRowParts
made_group profile group = flat_map (host_rows profile (rank_of (priority_of group))) (hosts_of group)

unfoldable pub made_rows : Profile → Data → List HostRowParts
made_rows profile tree = flat_map (made_group profile) (groups_of tree)

-- those rows, or none where it is passed over
abbrev pub made_where : Profile → Bool → Data → List HostRowParts
made_where profile condition tree = if condition then made_rows profile tree else []

-- the discovery of a cluster of these parts, and the cluster, if its names are names
abbrev pub discovery_with : Bool → Bool → List HostRowParts → List ℕ → Bool → Bool → Option Discovery
discovery_with in_cluster by_eds rows service limited fresh =
    if in_cluster then Some (Static rows)
    else if by_eds then option_map (λ name. Eds name limited fresh) (name_in service)
    else Some Elsewhere

abbrev pub cluster_with : List ℕ → Option Discovery → Bool → ClusterSecrets → List ℕ → Option Cluster
cluster_with name discovery checked secrets text =
    option_and_then (λ own. option_map (λ found. record {
      name = own;
      discovery = found;
      checked = checked;
      secrets = secrets.own;
      secrets_by_match = secrets.by_match;
      body_text = text;
    }) discovery) (name_in name)
