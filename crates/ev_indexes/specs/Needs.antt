-- What a generation depends on, with what stands twice. Source:
-- Envoy's `Cluster.eds_cluster_config`, `HttpConnectionManager.rds`, `SdsSecretConfig` and `ExtensionConfigSource`.
use Rattle.std.specs.Prelude.{◌≡◌, ◌<◌, Bool, ◌&&◌, List, [], ◌++◌, Option, None, Some, length}
use Rattle.std.specs.List.{list_any, flat_map, AllByRecursion}
use Rattle.ev_types.specs.Same.{bool_same}
use Rattle.ev_types.specs.Texts.{IsName}
use Rattle.ev_types.specs.declared.contents.Content.{Content}
use Rattle.ev_types.specs.declared.contents.Content.TheVariants.{Cluster as a_cluster, Assignment as an_assignment, Listener as a_listener, Routes as routes, Secret as a_secret, Extension as an_extension}
use Rattle.ev_types.specs.declared.listeners.FilterChain.{FilterChain}
use Rattle.ev_model.specs.Watching.{Dependency, chain_dependencies, cluster_dependencies, is_dependency, listener_dependencies}
use Rattle.ev_lookups.specs.Keys.{named}
use Rattle.ev_lookups.specs.declared.kind_keys.Key.{Key}

-- what a content depends on, in order; what is depended on twice stands twice
abbrev pub needs_of : Content → List Dependency
needs_of (a_cluster cluster) = cluster_dependencies cluster
needs_of (an_assignment rows) = []
needs_of (a_listener listener) = listener_dependencies listener
needs_of (routes table) = []
needs_of a_secret = []
needs_of an_extension = []

-- what a default chain depends on, where there is one
abbrev pub default_needs : Option FilterChain → List Dependency
default_needs None = []
default_needs (Some chain) = chain_dependencies chain

-- the first chains that depend on anything give what they depend on, and the others are left;
-- or none of them depends on anything
abbrev pub SplitsChains : List FilterChain → Option (List Dependency) → List FilterChain → Type 0
SplitsChains chains None rest = (flat_map chain_dependencies chains ≡ []) × (rest ≡ [])
SplitsChains chains (Some needs) rest =
    (flat_map chain_dependencies chains ≡ needs ++ flat_map chain_dependencies rest) × (0 < length needs)

-- what a dependency is on: a name of its kind
abbrev pub key_of : Dependency → Key
key_of d = named d.kind d.name

-- it is on this name of a kind
abbrev pub is_on : Key → Dependency → Bool
is_on key d = is_dependency key.kind key.name d

-- one of these is on the name
abbrev pub is_needed : Key → List Dependency → Bool
is_needed key ds = list_any (is_on key) ds

-- it is on the name, with this mark: whether the wait ends at the initial fetch timeout
abbrev pub is_need : Key → Bool → Dependency → Bool
is_need key limited d = bool_same d.limited limited && is_on key d

-- one of these is on the name, with this mark
abbrev pub is_needed_so : Key → Bool → List Dependency → Bool
is_needed_so key limited ds = list_any (is_need key limited) ds

-- each is on a name of 1 to 512 bytes
abbrev pub HaveNames : List Dependency → Type 0
HaveNames ds = AllByRecursion (λ (d : Dependency). IsName d.name) ds
