-- What a generation depends on, and which names are watched for it. Source:
-- cluster manager warming, listener discovery, secret discovery and extension configuration discovery
-- of Envoy's documentation: an EDS cluster waits for its endpoints, a listener for the routes of each chain with RDS,
-- both for the secrets of their transport sockets, and a listener for its extensions.
use Rattle.std.specs.Prelude.{ℕ, Bool, false, not, ◌&&◌, List, [], ◌∷◌, ◌++◌, filter, map, option_to_list, unwrap_or}
use Rattle.std.specs.List.{list_any, flat_map, dedup}
use Rattle.std.specs.Str.{bytes_eq}
use Rattle.ev_types.specs.declared.contents.Kind.{Kind}
use Rattle.ev_types.specs.declared.contents.Kind.TheVariants.{Eds, Rds, Sds, Ecds}
use Rattle.ev_types.specs.declared.contents.Content.{Content}
use Rattle.ev_types.specs.declared.contents.Content.TheVariants.{Cluster as a_cluster, Assignment as an_assignment, Listener as a_listener, Routes as routes, Secret as a_secret, Extension as an_extension}
use Rattle.ev_types.specs.declared.references.Reference.{Reference}
use Rattle.ev_types.specs.declared.clusters.Cluster.{Cluster}
use Rattle.ev_types.specs.declared.clusters.Discovery.{Discovery}
use Rattle.ev_types.specs.declared.clusters.Discovery.TheVariants.{Static, Eds as by_eds, Elsewhere}
use Rattle.ev_types.specs.declared.listeners.FilterChain.{FilterChain}
use Rattle.ev_types.specs.declared.listeners.Listener.{Listener}
use Rattle.ev_types.specs.declared.listeners.Serve.{Serve}
use Rattle.ev_types.specs.declared.listeners.Serve.TheVariants.{Rds as by_rds, Inline, Tcp, Other}
use Rattle.ev_types.specs.declared.rows.Live.{Live}
use Rattle.ev_types.specs.Kinds.{kind_same}
use Rattle.ev_types.specs.Same.{bool_same}
use Rattle.ev_model.specs.World.{World}
use Rattle.ev_model.specs.Live.{lives_of}
use Rattle.ev_model.specs.Sorted.{sorted_by}
use Rattle.ev_model.specs.Versions.{is_before}

-- a resource of another type that a generation waits for, by kind and name,
-- whether the wait ends at the initial fetch timeout, and whether it has to come anew:
-- what was received before the generation was made doesn't end the wait
pub record Dependency : Type 0 where
  pub kind : Kind
  pub name : List ℕ
  pub limited : Bool
  pub fresh : Bool

-- a cluster depends on the service that brings its hosts
abbrev pub discovery_dependencies : Discovery → List Dependency
discovery_dependencies (Static rows) = []
discovery_dependencies (by_eds service limited fresh) = record { kind = Eds; name = service; limited = limited; fresh = fresh } ∷ []
discovery_dependencies Elsewhere = []

-- a chain depends on the name that brings its routes; listeners share what was received for it
abbrev pub serve_dependencies : Serve → List Dependency
serve_dependencies (by_rds name limited) = record { kind = Rds; name = name; limited = limited; fresh = false } ∷ []
serve_dependencies (Inline table) = []
serve_dependencies (Tcp target) = []
serve_dependencies Other = []

-- it depends on what is referred to, of this kind; what was received before the generation was made counts
abbrev pub referred : Kind → List Reference → List Dependency
referred kind references =
    map (λ (r : Reference). record { kind = kind; name = r.name; limited = r.limited; fresh = false }) references

-- the secrets of a cluster: of its transport socket, then of those that are chosen by a match
abbrev pub cluster_secrets : Cluster → List Reference
cluster_secrets cluster = cluster.secrets ++ unwrap_or cluster.secrets_by_match []

-- a cluster depends on the service that brings its hosts, and on its secrets
abbrev pub cluster_dependencies : Cluster → List Dependency
cluster_dependencies cluster = discovery_dependencies cluster.discovery ++ referred Sds (cluster_secrets cluster)

-- a chain depends on the name that brings its routes, on its secrets and on its extensions
abbrev pub chain_dependencies : FilterChain → List Dependency
chain_dependencies chain = serve_dependencies chain.serve ++ (referred Sds chain.secrets ++ referred Ecds chain.extensions)

-- the chains of a listener in order, then its default chain
abbrev pub chains_of : Listener → List FilterChain
chains_of listener = listener.filter_chains ++ option_to_list listener.default_filter_chain

-- a listener depends on what its chains depend on, and on the extensions of its own filters
abbrev pub listener_dependencies : Listener → List Dependency
listener_dependencies listener = flat_map chain_dependencies (chains_of listener) ++ referred Ecds listener.extensions

-- the same kind and name, with the same marks
abbrev pub dependency_same : Dependency → Dependency → Bool
dependency_same a b = kind_same a.kind b.kind && bytes_eq a.name b.name && bool_same a.limited b.limited && bool_same a.fresh b.fresh

-- these dependencies in order, each once
abbrev pub each_once : List Dependency → List Dependency
each_once [] = []
each_once (d ∷ ds) = d ∷ filter (λ (other : Dependency). not (dependency_same d other)) (each_once ds)

-- what a generation of this content depends on
abbrev pub dependencies_of : Content → List Dependency
dependencies_of (a_cluster cluster) = each_once (cluster_dependencies cluster)
dependencies_of (an_assignment rows) = []
dependencies_of (a_listener listener) = each_once (listener_dependencies listener)
dependencies_of (routes table) = []
dependencies_of a_secret = []
dependencies_of an_extension = []

-- the kinds whose resources are asked for by name, in the order of their requests: those before listeners
abbrev pub kinds_before : List Kind
kinds_before = Eds ∷ []

-- and those behind them
abbrev pub kinds_behind : List Kind
kinds_behind = Rds ∷ Sds ∷ Ecds ∷ []

-- the dependency is of this kind and name
abbrev pub is_dependency : Kind → List ℕ → Dependency → Bool
is_dependency kind name d = kind_same d.kind kind && bytes_eq d.name name

-- a generation of this content depends on the name
abbrev pub has_dependency : Kind → List ℕ → Content → Bool
has_dependency kind name content = list_any (is_dependency kind name) (dependencies_of content)

-- a live row depends on the name
abbrev pub is_watched : List Live → Kind → List ℕ → Bool
is_watched lives kind name = list_any (λ (live : Live). has_dependency kind name live.content) lives

-- the names of this kind among these dependencies, in order
abbrev pub names_awaited : Kind → List Dependency → List (List ℕ)
names_awaited kind ds = map (λ (d : Dependency). d.name) (filter (λ (d : Dependency). kind_same d.kind kind) ds)

-- the names in the order of their bytes, each once
abbrev pub sorted_names : List (List ℕ) → List (List ℕ)
sorted_names names = dedup bytes_eq (sorted_by is_before names)

-- the names of this kind that these live rows depend on, sorted and without repeats
abbrev pub watched_by : List Live → Kind → List (List ℕ)
watched_by lives kind = sorted_names (flat_map (λ (live : Live). names_awaited kind (dependencies_of live.content)) lives)

-- the names of this kind that live rows depend on
abbrev pub watched_of : World → Kind → List (List ℕ)
watched_of world kind = watched_by (lives_of world) kind
