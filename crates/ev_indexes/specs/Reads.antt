-- What is read of a state, by searches of its rows: the machine's words, where what was received is looked up.
use Rattle.std.specs.Prelude.{ℕ, Bool, false, not, ◌&&◌, ◌||◌, if◌then◌else◌, List, [], ◌∷◌, ◌++◌, Option, Some, None, is_some, filter, map, option_map, unwrap_or}
use Rattle.std.specs.List.{list_all, list_any, flat_map}
use Rattle.ev_types.specs.Hosts.{HostRowParts}
use Rattle.ev_types.specs.Kinds.{kind_same}
use Rattle.ev_types.specs.Same.{bool_same}
use Rattle.ev_types.specs.Statuses.{is_live}
use Rattle.ev_types.specs.declared.contents.Content.{Content}
use Rattle.ev_types.specs.declared.contents.Content.TheVariants.{Cluster as a_cluster, Assignment as an_assignment, Listener as a_listener, Routes as routes, Secret as a_secret, Extension as an_extension}
use Rattle.ev_types.specs.declared.contents.Kind.{Kind}
use Rattle.ev_types.specs.declared.contents.Kind.TheVariants.{Rds, Sds}
use Rattle.ev_types.specs.declared.listeners.FilterChain.{FilterChain}
use Rattle.ev_types.specs.declared.listeners.Serve.{Serve}
use Rattle.ev_types.specs.declared.listeners.Serve.TheVariants.{Rds as by_rds, Inline, Tcp as by_tcp, Other as by_other}
use Rattle.ev_types.specs.declared.rows.GenRow.{GenRow}
use Rattle.ev_types.specs.declared.rows.Live.{Live}
use Rattle.ev_model.specs.declared.pictures.Routing.{Routing}
use Rattle.ev_model.specs.declared.pictures.Routing.TheVariants.{Table, Tcp, Other}
use Rattle.ev_model.specs.declared.pictures.ServedChain.{ServedChain}
use Rattle.ev_model.specs.declared.pictures.ServedCluster.{ServedCluster}
use Rattle.ev_model.specs.declared.pictures.ServedListener.{ServedListener}
use Rattle.ev_types.specs.declared.hosts.Host.{Host}
use Rattle.ev_types.specs.declared.hosts.SocketAddress.{SocketAddress}
use Rattle.ev_model.specs.Live.{live_of, lives_of}
use Rattle.ev_model.specs.Picture.{is_elsewhere, table_in, where_given}
use Rattle.ev_model.specs.Origins.{PlacedChain, placed_from, placed_default, origin_at}
use Rattle.ev_model.specs.declared.pictures.Secrets.{Secrets}
use Rattle.ev_model.specs.declared.pictures.Secrets.TheVariants.{There, Missing, Unknown}
use Rattle.ev_types.specs.declared.references.Reference.{Reference}
use Rattle.ev_model.specs.Signals.{is_awaited}
use Rattle.ev_model.specs.Warming.{counts_for, is_checked}
use Rattle.ev_model.specs.Watching.{Dependency, dependencies_of, names_awaited, sorted_names}
use Rattle.ev_model.specs.World.{World}
use Rattle.ev_indexes.specs.KeptEndpoints.{ResultsKept, result_in}
use Rattle.ev_indexes.specs.Tables.{row_in}
use Rattle.ev_lookups.specs.Lives.{is_at}
use Rattle.ev_lookups.specs.Keys.{named}
use Rattle.ev_lookups.specs.declared.kind_keys.Key.{Key}
use Rattle.ev_indexes.specs.declared.watches.Watch.{Watch}
use Rattle.ev_indexes.specs.Needs.{is_on, needs_of}
use Rattle.ev_indexes.specs.Watched.{WatchesKept, watch_in}
use Rattle.ev_indexes.specs.Ready.{assignment_in}
use Rattle.ev_indexes.specs.Indexes.{numbers_where, passes, serves, warms, holds}
use Rattle.ev_indexes.specs.declared.state.State.{State}

-- the live ones of these rows
abbrev pub live_rows : List GenRow → List GenRow
live_rows rows = filter (λ (row : GenRow). is_live row.status) rows

-- the row is a live one of this kind
abbrev pub lives_as : Kind → GenRow → Bool
lives_as kind row = is_live row.status && kind_same row.kind kind

-- the names of a kind that live rows depend on, in the order of the rows and of their places
abbrev pub names_needed : Kind → List GenRow → List (List ℕ)
names_needed kind rows = flat_map (λ (row : GenRow). names_awaited kind (needs_of row.content)) (live_rows rows)

-- the same, sorted and without repeats
abbrev pub names_watched : Kind → List GenRow → List (List ℕ)
names_watched kind rows = sorted_names (names_needed kind rows)

-- the generation of this number waits for the name within a limit:
-- by what is known of it, nothing was received for it, nor has the wait timed out
abbrev pub awaits_in : Key → Watch → ℕ → Dependency → Bool
awaits_in key watch number d =
    is_on key d && d.limited && not (counts_for number d watch.told || counts_for number d watch.timed)

-- a live row waits so for the name
abbrev pub is_waiting_in : Key → Watch → GenRow → Bool
is_waiting_in key watch row = is_live row.status && list_any (awaits_in key watch row.number) (dependencies_of row.content)

-- one of these rows waits so for the name
abbrev pub is_timeout_due : WatchesKept → List GenRow → Key → Bool
is_timeout_due watches rows key = list_any (is_waiting_in key (watch_in watches key)) rows

-- one of these numbers is that of a row that waits so for the name
abbrev pub is_one_waiting : Key → Watch → List GenRow → List ℕ → Bool
is_one_waiting key watch rows numbers = list_any (λ number. passes (is_waiting_in key watch) (row_in number rows)) numbers

-- a row serves the name, or none warms under it
abbrev pub has_come_in : List GenRow → Key → Bool
has_come_in rows key = list_any (serves key) rows || not (list_any (warms key) rows)

-- the host may be chosen for the row
abbrev pub is_eligible_in : ResultsKept → GenRow → HostRowParts → Bool
is_eligible_in results row h = h.usable && (not (is_checked row.content) || unwrap_or (result_in results row.number h.host) false)

-- the hosts that may be chosen for the row
abbrev pub eligible_in : WatchesKept → ResultsKept → GenRow → List HostRowParts
eligible_in watches results row = filter (is_eligible_in results row) (assignment_in watches row.content)

-- the secret has no value
abbrev pub is_missing_in : WatchesKept → Reference → Bool
is_missing_in watches reference = not (is_some (watch_in watches (named Sds reference.name)).value)

-- one of these secrets has none
abbrev pub lacks_in : WatchesKept → List Reference → Bool
lacks_in watches references = list_any (is_missing_in watches) references

-- what is known of a cluster's secrets
abbrev pub cluster_secrets_in : WatchesKept → List Reference → Option (List Reference) → Secrets
cluster_secrets_in watches secrets None = if lacks_in watches secrets then Missing else There
cluster_secrets_in watches secrets (Some by_match) = if lacks_in watches (secrets ++ by_match) then Unknown else There

-- the same of a content
abbrev pub secrets_in : WatchesKept → Content → Secrets
secrets_in watches (a_cluster cluster) = cluster_secrets_in watches cluster.secrets cluster.secrets_by_match
secrets_in watches (an_assignment rows) = There
secrets_in watches (a_listener listener) = There
secrets_in watches (routes table) = There
secrets_in watches a_secret = There
secrets_in watches an_extension = There

-- a cluster, with the hosts that may be chosen
abbrev pub cluster_in : WatchesKept → ResultsKept → GenRow → ServedCluster
cluster_in watches results row = record {
  number = row.number;
  name = row.name;
  hosts = eligible_in watches results row;
  elsewhere = is_elsewhere row.content;
  secrets = secrets_in watches row.content;
}

-- where a chain's connections go
abbrev pub routing_in : WatchesKept → Serve → Routing
routing_in watches (by_rds name limited) = Table (table_in (watch_in watches (named Rds name)).value)
routing_in watches (Inline table) = Table table
routing_in watches (by_tcp target) = Tcp target
routing_in watches by_other = Other

-- a chain, with where its connections go
abbrev pub chain_in : WatchesKept → GenRow → PlacedChain → ServedChain
chain_in watches row p = record {
  place = where_given p.chain p.place;
  origin = where_given p.chain (origin_at row.number row.kept p.place);
  criteria = p.chain.criteria;
  routing = routing_in watches p.chain.serve;
  lacks_secret = lacks_in watches p.chain.secrets;
}

-- a listener; what is no listener isn't shown
abbrev pub listener_in : WatchesKept → GenRow → Content → List ServedListener
listener_in watches row (a_cluster cluster) = []
listener_in watches row (an_assignment rows) = []
listener_in watches row (a_listener listener) = record {
  number = row.number;
  name = row.name;
  address = listener.address.host;
  takes_every_address = listener.takes_every_address;
  udp = listener.address.udp;
  restores = listener.restores;
  hands_over = listener.hands_over;
  filter_chains = map (chain_in watches row) (placed_from 0 listener.filter_chains);
  default_filter_chain = option_map (λ (c : FilterChain). chain_in watches row (placed_default c)) listener.default_filter_chain;
} ∷ []
listener_in watches row (routes table) = []
listener_in watches row a_secret = []
listener_in watches row an_extension = []

-- a live row of the world waits for the name of this kind within a limit:
-- nothing was received for it, nor has the wait timed out
abbrev pub is_awaited_at : World → Kind → List ℕ → Bool
is_awaited_at world kind name = is_awaited world.arrivals world.rows kind name

-- what is seen of the rows that hold the address, in order
abbrev pub holders_in : List GenRow → SocketAddress → List Live
holders_in rows address = map live_of (filter (holds address) rows)

-- what is seen in a world of the live generations that listen at the address
abbrev pub holders_of : World → SocketAddress → List Live
holders_of world address = filter (is_at address) (lives_of world)

-- a host is as healthy as a result says for each row that serves the name
abbrev pub is_as_healthy : State → Key → Host → Bool → Bool
is_as_healthy s key host healthy =
    list_all (λ n. bool_same (unwrap_or (result_in s.results n host) false) healthy) (numbers_where (serves key) s.table.rows)
