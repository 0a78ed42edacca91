-- The hosts of a template, and how they are written as endpoints.
use Rattle.std.specs.Prelude.{ℕ, Bool, List, map, flat_map, if◌then◌else◌, codes}
use Rattle.serde_json.specs.Data.{Data, number, unsigned, string, array, object, no_items, item, no_members, put}
use Rattle.serde_json.specs.View.{items_of}
use Rattle.ev_types.specs.Hosts.{HostRowParts}
use Rattle.ev_expand.specs.declared.keys.Key.{Key}
use Rattle.ev_dns.specs.Templates.{template_rows}

-- the row with this address in place of its host name
abbrev pub with_address : HostRowParts → List ℕ → HostRowParts
with_address row address = record row { host = record { address = address; port = row.host.port } }

-- for each row in order each address of its name
abbrev pub resolved_rows : (List ℕ → List (List ℕ)) → List HostRowParts → List HostRowParts
resolved_rows addresses rows =
    flat_map (λ (row : HostRowParts). map (with_address row) (addresses row.host.address)) rows

-- the hosts of a template, where names have these addresses
abbrev pub hosts_with : (List ℕ → List (List ℕ)) → Key → List HostRowParts
hosts_with addresses key = resolved_rows addresses (template_rows key)

-- ---- endpoints

abbrev pub number_tree : ℕ → Data
number_tree n = number (unsigned n)

abbrev pub status_text : Bool → List ℕ
status_text usable = if usable then codes "HEALTHY" else codes "UNHEALTHY"

-- the address of a host
abbrev pub address_tree : HostRowParts → Data
address_tree row = object (put (codes "socketAddress")
    (object (put (codes "address") (string row.host.address)
    (put (codes "portValue") (number_tree row.host.port) no_members))) no_members)

-- a host
abbrev pub host_tree : HostRowParts → Data
host_tree row = object (put (codes "endpoint") (object (put (codes "address") (address_tree row) no_members))
    (put (codes "healthStatus") (string (status_text row.usable))
    (put (codes "loadBalancingWeight") (number_tree row.weight) no_members)))

-- a group of one host: so the hosts keep their order, whatever their priorities are
abbrev pub group_tree : HostRowParts → Data
group_tree row = object
    (put (codes "lbEndpoints") (array (item (host_tree row) no_items))
    (put (codes "priority") (number_tree row.priority) no_members))

-- the endpoints that these hosts are
abbrev pub endpoints_tree : List HostRowParts → Data
endpoints_tree rows = array (items_of (map group_tree rows))
