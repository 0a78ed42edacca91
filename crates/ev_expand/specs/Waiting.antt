-- What the lines that a command makes are read as: clusters that wait, and endpoints by private names.
use Rattle.std.specs.Prelude.{◌≡◌, ℕ, ◌+◌, ◌≤◌, ◌⊎◌, Bool, true, false, List, ◌++◌, length, map, filter_map, Option, None, Some, is_some, option_map, codes}
use Rattle.std.specs.List.{list_any}
use Rattle.serde_json.specs.Data.{Data, string}
use Rattle.ev_types.specs.Items.{ItemParts, ResponseParts}
use Rattle.ev_types.specs.declared.clusters.Cluster.{Cluster}
use Rattle.ev_types.specs.declared.clusters.Discovery.TheVariants.{Eds as by_name}
use Rattle.ev_types.specs.declared.contents.Kind.TheVariants.{Cds, Eds}
use Rattle.ev_types.specs.declared.contents.Content.TheVariants.{Cluster as a_cluster}
use Rattle.ev_types.specs.declared.contents.Body.{Body}
use Rattle.ev_types.specs.declared.contents.Body.TheVariants.{Good}
use Rattle.ev_types.specs.declared.events.Actor.TheVariants.{Stream}
use Rattle.ev_types.specs.declared.events.Event.TheVariants.{Response}
use Rattle.ev_types.specs.declared.events.Line.{Line}
use Rattle.ev_types.specs.declared.events.Profile.{Profile}
use Rattle.ev_types.specs.Profiles.{is_envoy}
use Rattle.ev_tree.specs.declared.limits.TheConstants.{MAX_NAME_BYTES}
use Rattle.ev_tree.specs.Floats.{body_text_of}
use Rattle.ev_cluster_json.specs.Clusters.{has_custom_type}
use Rattle.ev_cluster_json.specs.Sockets.{cluster_secrets}
use Rattle.ev_wire.specs.Bodies.{resource_of}
use Rattle.ev_wire.specs.Responses.{entry_name, ttl_of, item_of}
use Rattle.ev_script.specs.Lines.{line_of}
use Rattle.ev_expand.specs.declared.keys.Key.{Key}
use Rattle.ev_expand.specs.Keys.{typed_cluster}
use Rattle.ev_expand.specs.Editing.{with_value}
use Rattle.ev_expand.specs.Fronts.{event_of}
use Rattle.ev_expand.specs.Guarding.{Guard, Guarded, clusters_in, place_in, place_at, private_name, body_in, waiting_body, waiting_entry, waiting_entries, waiting_line}
use Rattle.ev_expand.specs.Following.{DueParts, entry_due, following_line}

-- ---- clusters that wait

-- the cluster, waiting for this name without limit; as Envoy reads it for endpoints that come anew, with the secrets
-- that its body refers to, and of another body
abbrev pub waiting_cluster : Profile → List ℕ → Data → Cluster → Cluster
waiting_cluster profile name body cluster = record {
  name = cluster.name;
  discovery = by_name name false (is_envoy profile);
  checked = cluster.checked;
  secrets = (cluster_secrets profile body).own;
  secrets_by_match = (cluster_secrets profile body).by_match;
  body_text = body_text_of profile (waiting_body name body);
}

-- the item of a resource, with the cluster as it waits by the number of this place
abbrev pub waiting_item : Profile → List ℕ → ℕ → Cluster → Data → ItemParts
waiting_item profile prefix place cluster entry = record (item_of profile Cds entry) {
  body = Good (a_cluster (waiting_cluster profile (private_name prefix place) (body_in entry) cluster));
}

-- a body with the type STATIC
abbrev pub static_body : Data → Data
static_body body = with_value (codes "type") (string (codes "STATIC")) body

-- what a resource's body is read as, with this tree in its place
abbrev pub body_read : Profile → Data → Data → Body
body_read profile entry tree = resource_of profile Cds (entry_name entry) (ttl_of entry) tree

-- with this tree as its body the resource is this cluster, but for its secrets and the text of the body
pub record IsClusterWith (profile : Profile) (entry : Data) (cluster : Cluster) (tree : Data) : Type 0 where
  pub own : Cluster
  pub reads : body_read profile entry tree ≡ Good (a_cluster own)
  pub same : typed_cluster own ≡ cluster

-- the resource has no custom type, and is the cluster, or would be with the type STATIC
pub record IsOfCluster (profile : Profile) (entry : Data) (cluster : Cluster) : Type 0 where
  pub typed : has_custom_type (body_in entry) ≡ false
  pub reads : IsClusterWith profile entry cluster (body_in entry) ⊎ IsClusterWith profile entry cluster (static_body (body_in entry))

-- what is guarded is of its key's cluster
abbrev pub GuardsClusters : Guard → Type 0
GuardsClusters guard = (entry : Data) (key : Key) → guard.key_of entry ≡ Some key → IsOfCluster guard.profile entry key.cluster

-- the prefix leaves room for the longest number in a name
abbrev pub IsShortPrefix : List ℕ → Type 0
IsShortPrefix prefix = length prefix + 64 ≤ MAX_NAME_BYTES

-- a guarded resource is read as its cluster, which waits by the number of its key
abbrev pub ResourcesWait : Type 0
ResourcesWait =
    (guard : Guard) (prefix : List ℕ) (guarded : List Guarded) (entry : Data) (key : Key)
    → GuardsClusters guard → IsShortPrefix prefix → guard.key_of entry ≡ Some key
    → item_of guard.profile Cds (waiting_entry prefix (place_at guard guarded entry) entry)
    ≡ waiting_item guard.profile prefix (place_in guarded key) key.cluster entry

-- ---- lines

-- a line of the stream with this response
abbrev pub stream_line : ℕ → ResponseParts → Line
stream_line at response = record { at = at; actor = Stream; event = Response response }

-- a response of clusters, with the guarded ones as they wait
abbrev pub waiting_response : List ℕ → Guard → List Guarded → Data → ResponseParts → ResponseParts
waiting_response prefix guard guarded line response =
    record response { items = map (item_of guard.profile Cds) (waiting_entries prefix guard guarded line) }

-- the tree is a line of the stream with this response
abbrev pub IsStreamLine : Profile → Data → ResponseParts → ℕ → Type 0
IsStreamLine profile tree response at = line_of profile at tree ≡ Some (stream_line at response)

-- the names of items
abbrev pub names_in : List ItemParts → List (List ℕ)
names_in items = map (λ (item : ItemParts). item.name) items

-- the line is a response of clusters, and as it waits it is that response with the guarded ones as they wait, under
-- their names
pub record WaitsAsSaid (prefix : List ℕ) (guard : Guard) (guarded : List Guarded) (line : Data) : Type 0 where
  pub response : ResponseParts
  pub event : event_of guard.profile line ≡ Some (Response response)
  pub kind : response.kind ≡ Some Cds
  pub reads : (at : ℕ) → IsStreamLine guard.profile (waiting_line prefix guard guarded line) (waiting_response prefix guard guarded line response) at
  pub names : names_in (waiting_response prefix guard guarded line response).items ≡ names_in response.items

-- some resource of clusters of the line is guarded
abbrev pub has_guarded : Guard → Data → Bool
has_guarded guard line = list_any (λ entry. is_some (guard.key_of entry)) (clusters_in guard.profile line)

-- a line with guarded resources is the response that it was, with these as they wait
abbrev pub LinesWait : Type 0
LinesWait =
    (prefix : List ℕ) (guard : Guard) (guarded : List Guarded) (line : Data)
    → has_guarded guard line ≡ true → WaitsAsSaid prefix guard guarded line

-- the name of a place that is due, where it has endpoints, and where it has none
abbrev pub name_with : List ℕ → DueParts → Option (List ℕ)
name_with prefix due = option_map (λ endpoints. private_name prefix due.place) due.endpoints

abbrev pub bare_name : List ℕ → Option Data → Option (List ℕ)
bare_name name None = Some name
bare_name name (Some endpoints) = None

abbrev pub name_left : List ℕ → DueParts → Option (List ℕ)
name_left prefix due = bare_name (private_name prefix due.place) due.endpoints

-- the response of endpoints that the line is which follows one of this version, where these are due
abbrev pub following_response : Profile → List ℕ → List ℕ → List ℕ → List DueParts → ResponseParts
following_response profile prefix nonce version due = record {
  kind = Some Eds;
  nonce = nonce ++ version;
  items = map (item_of profile Eds) (filter_map (entry_due prefix version) due);
  removed = filter_map (name_left prefix) due;
}

-- the line that follows is that response, at any place, and the names of its items are those of the places that have
-- endpoints
pub record FollowsAsSaid (profile : Profile) (prefix nonce version : List ℕ) (due : List DueParts) : Type 0 where
  pub reads : (at : ℕ) → IsStreamLine profile (following_line prefix nonce version due) (following_response profile prefix nonce version due) at
  pub names : names_in (following_response profile prefix nonce version due).items ≡ filter_map (name_with prefix) due

-- a line that follows is a response of endpoints by private names
abbrev pub LinesFollow : Type 0
LinesFollow =
    (profile : Profile) (prefix nonce version : List ℕ) (due : List DueParts)
    → 1 ≤ length nonce → FollowsAsSaid profile prefix nonce version due
