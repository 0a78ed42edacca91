-- Templates: clusters whose hosts are names to be resolved. They are of the type STRICT_DNS of Envoy's clusters, have
-- socket addresses alone, and are good with the type STATIC in its place.
use Rattle.std.specs.Prelude.{ℕ, ◌==◌, ◌&&◌, ◌||◌, Bool, not, List, [], Option, Some, None, if◌then◌else◌, codes}
use Rattle.std.specs.List.{list_any, list_all}
use Rattle.std.specs.Str.{bytes_eq}
use Rattle.serde_json.specs.Data.{Data, null, string}
use Rattle.ev_types.specs.Hosts.{HostRowParts}
use Rattle.ev_types.specs.declared.contents.Kind.TheVariants.{Cds}
use Rattle.ev_types.specs.declared.contents.Body.{Body}
use Rattle.ev_types.specs.declared.contents.Body.TheVariants.{Good, Bad, Beat}
use Rattle.ev_types.specs.declared.contents.Content.{Content}
use Rattle.ev_types.specs.declared.contents.Content.TheVariants.{Cluster as a_cluster}
use Rattle.ev_types.specs.declared.clusters.Discovery.{Discovery}
use Rattle.ev_types.specs.declared.clusters.Discovery.TheVariants.{Static, Eds, Elsewhere}
use Rattle.ev_types.specs.declared.events.Profile.{Profile}
use Rattle.ev_tree.specs.declared.outcome.Found.{Found}
use Rattle.ev_tree.specs.declared.span.Span.{Span}
use Rattle.ev_tree.specs.Addresses.{outer_of}
use Rattle.ev_tree.specs.Forms.{is_given, is_wrong, object_of}
use Rattle.ev_tree.specs.Spans.{is_not_positive}
use Rattle.ev_cluster_json.specs.Assignments.{endpoint_of, hosts_of, groups_of}
use Rattle.ev_cluster_json.specs.Clusters.{has_custom_type, load_assignment_of, type_of}
use Rattle.ev_wire.specs.Bodies.{breaks_v1, breaks_v2, breaks_v3, resource_of}
use Rattle.ev_wire.specs.Responses.{entry_name, ttl_of}
use Rattle.ev_expand.specs.declared.keys.Key.{Key}
use Rattle.ev_expand.specs.Keys.{key_with}
use Rattle.ev_expand.specs.Editing.{with_value}
use Rattle.ev_expand.specs.Guarding.{Guard, body_in}
use Rattle.ev_dns.specs.declared.templates.TheConstants.{STRICT_DNS}

-- the type of a cluster is STRICT_DNS
abbrev pub is_strict_dns : Data → Bool
is_strict_dns body = type_of body == STRICT_DNS

-- a host has a socket address
abbrev pub has_socket : Data → Bool
has_socket host = is_given (object_of (codes "socket_address") (outer_of (endpoint_of host)))

-- so has each of a group
abbrev pub group_has_sockets : Data → Bool
group_has_sockets group = list_all has_socket (hosts_of group)

-- and each that stands in a cluster
abbrev pub has_sockets : Data → Bool
has_sockets body = list_all group_has_sockets (groups_of (load_assignment_of body))

-- a cluster of the type STRICT_DNS, without a custom type, whose hosts have socket addresses
abbrev pub is_template : Data → Bool
is_template body = is_strict_dns body && not (has_custom_type body) && has_sockets body

-- the same cluster with the type STATIC
abbrev pub static_body : Data → Data
static_body body = with_value (codes "type") (string (codes "STATIC")) body

-- what a resource of clusters is read as with this type
abbrev pub read_static : Profile → Data → Body
read_static profile entry = resource_of profile Cds (entry_name entry) (ttl_of entry) (static_body (body_in entry))

-- the key of a good cluster
abbrev pub content_key : Content → Option Key
content_key (a_cluster cluster) = Some (key_with cluster [])
content_key content = None

abbrev pub body_key : Body → Option Key
body_key (Good content) = content_key content
body_key (Bad rule) = None
body_key Beat = None

abbrev pub template_key : Profile → Data → Option Key
template_key profile entry = if is_template (body_in entry) then body_key (read_static profile entry) else None

-- a resource is guarded where it is a template. Nothing is kept of the first of a key: the key has its hosts.
abbrev pub by_names : Profile → Guard
by_names profile = record { profile = profile; key_of = template_key profile; own_of = λ entry. null }

-- a resource breaks a rule by its type, its names or its time to live
abbrev pub breaks_own : List ℕ → Found Span → Data → Bool
breaks_own name ttl body =
    breaks_v1 Cds body || breaks_v2 name || breaks_v3 Cds name body || is_wrong ttl || is_not_positive ttl

-- ---- the hosts of a template

abbrev pub rows_in : Discovery → List HostRowParts
rows_in (Static rows) = rows
rows_in (Eds service limited fresh) = []
rows_in Elsewhere = []

-- the hosts of a template: their addresses are host names
abbrev pub template_rows : Key → List HostRowParts
template_rows key = rows_in key.cluster.discovery

-- a host of the template has this name
abbrev pub has_name : List ℕ → Key → Bool
has_name name key = list_any (λ (row : HostRowParts). bytes_eq row.host.address name) (template_rows key)
