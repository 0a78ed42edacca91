-- The secrets that a cluster names: by `transport_socket` of Envoy's cluster, with the context of TLS towards
-- upstream hosts, where their values come by the secret discovery service.
use Rattle.std.specs.Prelude.{ℕ, Bool, ◌==◌, List, [], ◌∷◌, ◌++◌, length, filter_map, Option, Some, None, if◌then◌else◌, codes}
use Rattle.std.specs.Str.{bytes_eq}
use Rattle.serde_json.specs.Data.{Data, null, array, no_items}
use Rattle.ev_types.specs.declared.contents.Kind.TheVariants.{Cds}
use Rattle.ev_types.specs.declared.contents.Body.{Body}
use Rattle.ev_types.specs.declared.contents.Body.TheVariants.{Good, Bad, Beat}
use Rattle.ev_types.specs.declared.contents.Content.{Content}
use Rattle.ev_types.specs.declared.contents.Content.TheVariants.{Cluster as a_cluster}
use Rattle.ev_types.specs.declared.clusters.Cluster.{Cluster}
use Rattle.ev_types.specs.declared.events.Profile.{Profile}
use Rattle.ev_types.specs.Profiles.{is_envoy}
use Rattle.ev_tree.specs.declared.outcome.Found.{Found}
use Rattle.ev_tree.specs.declared.outcome.Found.TheVariants.{Absent, Wrong, Given}
use Rattle.ev_tree.specs.Forms.{is_given, given_or, inside, listed, field_of, text_of, object_of, list_of}
use Rattle.ev_cluster_json.specs.Clusters.{load_assignment_of}
use Rattle.ev_cluster_json.specs.Made.{name_in}
use Rattle.ev_wire.specs.Responses.{item_of}
use Rattle.ev_expand.specs.declared.keys.Key.{Key}
use Rattle.ev_expand.specs.Keys.{key_with}
use Rattle.ev_expand.specs.Guarding.{Guard, body_in}

-- the type of the context of TLS towards upstream hosts
abbrev pub upstream_tls : List ℕ
upstream_tls = codes "type.googleapis.com/envoy.extensions.transport_sockets.tls.v3.UpstreamTlsContext"

-- the configuration of a cluster's transport socket
abbrev pub socket_config : Data → Data
socket_config body = inside (object_of (codes "typed_config") (inside (object_of (codes "transport_socket") body)))

-- it is that of TLS
abbrev pub is_tls : Data → Bool
is_tls config = bytes_eq (given_or [] (text_of (codes "@type") config)) upstream_tls

-- the part of it that names secrets, where it is that of TLS
abbrev pub context_in : Data → Data
context_in config = if is_tls config then inside (object_of (codes "common_tls_context") config) else null

-- the part of a cluster that names secrets
abbrev pub tls_context : Data → Data
tls_context body = context_in (socket_config body)

-- the value that is given, as a list
abbrev pub given_list : Found Data → List Data
given_list Absent = []
given_list Wrong = []
given_list (Given value) = value ∷ []

-- the entries that may name secrets: those of the certificates in their order, then that of the validation context
abbrev pub secret_configs : Data → List Data
secret_configs context =
    listed (list_of (codes "tls_certificate_sds_secret_configs") context) ++ given_list (field_of (codes "validation_context_sds_secret_config") context)

-- the name in the member `name`: a text of 1 to 512 bytes
abbrev pub own_name : Data → Option (List ℕ)
own_name tree = name_in (given_or [] (text_of (codes "name") tree))

-- the secret that an entry names, where its values come by a config source
abbrev pub secret_named : Data → Option (List ℕ)
secret_named config = if is_given (field_of (codes "sds_config") config) then own_name config else None

-- the secrets that a cluster names
abbrev pub references_of : Data → List (List ℕ)
references_of body = filter_map secret_named (secret_configs (tls_context body))

-- the key of a good cluster that names secrets
abbrev pub cluster_key : Cluster → List (List ℕ) → Option Key
cluster_key cluster names = if length names == 0 then None else Some (key_with cluster names)

abbrev pub content_key : Content → List (List ℕ) → Option Key
content_key (a_cluster cluster) names = cluster_key cluster names
content_key content names = None

abbrev pub body_key : Body → List (List ℕ) → Option Key
body_key (Good content) names = content_key content names
body_key (Bad rule) names = None
body_key Beat names = None

-- the endpoints of an assignment, as they are there
abbrev pub endpoints_in : Data → Data
endpoints_in assignment = given_or (array no_items) (field_of (codes "endpoints") assignment)

-- A resource is guarded where its body is good and names secrets, and nothing is where the lines are read as Envoy
-- reads them: there clusters wait for their secrets by themselves. Of the first of a key its own endpoints are kept.
abbrev pub by_secrets : Profile → Guard
by_secrets profile = record {
  profile = profile;
  key_of = λ entry. if is_envoy profile then None else body_key (item_of profile Cds entry).body (references_of (body_in entry));
  own_of = λ entry. endpoints_in (load_assignment_of (body_in entry));
}
