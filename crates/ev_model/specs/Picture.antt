-- What workers may serve: a picture shows it, and has a version.
-- This project's own, for Envoy's snapshots of clusters and listeners on its worker threads.
use Rattle.std.specs.Prelude.{ℕ, ◌≡◌, Bool, true, false, ◌&&◌, ◌==◌, if◌then◌else◌, List, [], ◌∷◌, ◌++◌, filter, map, length, Option, Some, None, option_map, is_some, not, refl}
use Rattle.std.specs.List.{list_any, flat_map}
use Rattle.std.specs.Option.{option_eq}
use Rattle.std.specs.Str.{bytes_eq}
use Rattle.std.specs.Bool.{Decides}
use Rattle.std.proofs.Common.{ap}
use lib.Pointwise.{pointwise, pointwise_decides}
use Rattle.ev_types.specs.FilterChains.{filter_chain_match_same, filter_chain_match_decides}
use Rattle.ev_types.specs.Kinds.{kind_same}
use Rattle.ev_types.specs.Same.{bool_same, bool_decides, both_decide, decides_as, bytes_decide, numbers_decide, option_decides}
use Rattle.ev_types.specs.SameHosts.{host_same, rows_same, host_decides, rows_decide}
use Rattle.ev_types.specs.SameRoutes.{target_same, route_table_same, target_decides, route_table_decides}
use Rattle.ev_types.specs.Origins.{chain_place_same, chain_place_decides, origin_same, origin_decides}
use Rattle.ev_types.specs.Statuses.{is_active}
use Rattle.ev_types.specs.declared.references.Reference.{Reference}
use Rattle.ev_types.specs.declared.contents.Kind.{Kind}
use Rattle.ev_types.specs.declared.contents.Kind.TheVariants.{Cds, Rds, Lds, Sds}
use Rattle.ev_types.specs.declared.contents.Content.{Content}
use Rattle.ev_types.specs.declared.contents.Content.TheVariants.{Cluster as a_cluster, Assignment as an_assignment, Listener as a_listener, Routes as routes, Secret as a_secret, Extension as an_extension}
use Rattle.ev_types.specs.declared.clusters.Discovery.{Discovery}
use Rattle.ev_types.specs.declared.clusters.Discovery.TheVariants.{Static, Eds as by_eds, Elsewhere}
use Rattle.ev_types.specs.declared.listeners.FilterChain.{FilterChain}
use Rattle.ev_types.specs.declared.listeners.Serve.{Serve}
use Rattle.ev_types.specs.declared.listeners.Serve.TheVariants.{Rds as by_rds, Inline, Tcp as by_tcp, Other as by_other}
use Rattle.ev_types.specs.declared.routes.RouteTable.{RouteTable}
use Rattle.ev_types.specs.declared.rows.GenRow.{GenRow}
use Rattle.ev_model.specs.declared.pictures.Picture.{Picture}
use Rattle.ev_model.specs.declared.pictures.Shown.{Shown}
use Rattle.ev_model.specs.declared.pictures.Routing.{Routing}
use Rattle.ev_model.specs.declared.pictures.Routing.TheVariants.{Table, Tcp, Other}
use Rattle.ev_model.specs.declared.pictures.ServedChain.{ServedChain}
use Rattle.ev_model.specs.declared.pictures.ServedCluster.{ServedCluster}
use Rattle.ev_model.specs.declared.pictures.ServedListener.{ServedListener}
use Rattle.ev_model.specs.declared.pictures.Secrets.{Secrets}
use Rattle.ev_model.specs.declared.pictures.Secrets.TheVariants.{There, Missing, Unknown}
use Rattle.ev_model.specs.Origins.{PlacedChain, placed_from, placed_default, origin_at}
use Rattle.ev_model.specs.World.{World, Arrived, HealthResult}
use Rattle.ev_model.specs.Sorted.{sorted_by}
use Rattle.ev_model.specs.Versions.{is_before}
use Rattle.ev_model.specs.Verdicts.{is_given}
use Rattle.ev_model.specs.Warming.{value_by, assignment_by, is_eligible_by}
use Rattle.ev_model.specs.Phase.{is_serving}

-- the rows in the order of their names
abbrev pub by_name : List GenRow → List GenRow
by_name rows = sorted_by (λ (row other : GenRow). is_before row.name other.name) rows

-- the active rows of this kind, in the order of their names
abbrev pub active_rows : List GenRow → Kind → List GenRow
active_rows rows kind = by_name (filter (λ (row : GenRow). kind_same row.kind kind && is_active row.status) rows)

-- Envoy, or an extension of it, finds the hosts
abbrev pub is_discovered_elsewhere : Discovery → Bool
is_discovered_elsewhere (Static rows) = false
is_discovered_elsewhere (by_eds service limited fresh) = false
is_discovered_elsewhere Elsewhere = true

-- a cluster whose hosts are found so
abbrev pub is_elsewhere : Content → Bool
is_elsewhere (a_cluster cluster) = is_discovered_elsewhere cluster.discovery
is_elsewhere (an_assignment rows) = false
is_elsewhere (a_listener listener) = false
is_elsewhere (routes table) = false
is_elsewhere a_secret = false
is_elsewhere an_extension = false

-- the secret has no value
abbrev pub is_missing : List Arrived → Reference → Bool
is_missing arrivals reference = not (is_some (value_by arrivals Sds reference.name))

-- one of these secrets has none
abbrev pub lacks_one : List Arrived → List Reference → Bool
lacks_one arrivals references = list_any (is_missing arrivals) references

-- a cluster's secrets are there, or one of them is missing;
-- where a match chooses among transport sockets, nothing in a script says whether a missing one is asked for
abbrev pub secrets_with : List Arrived → List Reference → Option (List Reference) → Secrets
secrets_with arrivals secrets None = if lacks_one arrivals secrets then Missing else There
secrets_with arrivals secrets (Some by_match) = if lacks_one arrivals (secrets ++ by_match) then Unknown else There

-- the secrets of a content
abbrev pub secrets_by : List Arrived → Content → Secrets
secrets_by arrivals (a_cluster cluster) = secrets_with arrivals cluster.secrets cluster.secrets_by_match
secrets_by arrivals (an_assignment rows) = There
secrets_by arrivals (a_listener listener) = There
secrets_by arrivals (routes table) = There
secrets_by arrivals a_secret = There
secrets_by arrivals an_extension = There

-- an active cluster, with the hosts that may be chosen in the order of its assignment
abbrev pub served_cluster : List Arrived → List HealthResult → GenRow → ServedCluster
served_cluster arrivals results row = record {
  number = row.number;
  name = row.name;
  hosts = filter (is_eligible_by results row) (assignment_by arrivals row.content);
  elsewhere = is_elsewhere row.content;
  secrets = secrets_by arrivals row.content;
}

-- the active clusters, in the order of their names
abbrev pub served_clusters : List Arrived → List HealthResult → List GenRow → List ServedCluster
served_clusters arrivals results rows = map (served_cluster arrivals results) (active_rows rows Cds)

-- the routes of a value; without one there are none
abbrev pub table_in : Option Content → RouteTable
table_in None = record { hosts = [] }
table_in (Some (a_cluster cluster)) = record { hosts = [] }
table_in (Some (an_assignment rows)) = record { hosts = [] }
table_in (Some (a_listener listener)) = record { hosts = [] }
table_in (Some (routes table)) = table
table_in (Some a_secret) = record { hosts = [] }
table_in (Some an_extension) = record { hosts = [] }

-- where a chain's connections go: by the routes that are its name's value, by its own, to its target, or elsewhere
abbrev pub routing_of : List Arrived → Serve → Routing
routing_of arrivals (by_rds name limited) = Table (table_in (value_by arrivals Rds name))
routing_of arrivals (Inline table) = Table table
routing_of arrivals (by_tcp target) = Tcp target
routing_of arrivals by_other = Other

-- a fact of a chain, where the chain is known by its body
abbrev pub where_given : {A : Type 0} → FilterChain → A → Option A
where_given chain fact = if is_given chain.body_text then Some fact else None

-- a chain of a generation, with where its connections go
abbrev pub served_chain : List Arrived → GenRow → PlacedChain → ServedChain
served_chain arrivals row p = record {
  place = where_given p.chain p.place;
  origin = where_given p.chain (origin_at row.number row.kept p.place);
  criteria = p.chain.criteria;
  routing = routing_of arrivals p.chain.serve;
  lacks_secret = lacks_one arrivals p.chain.secrets;
}

-- an active listener; what is no listener isn't shown
abbrev pub served_listener : List Arrived → GenRow → Content → List ServedListener
served_listener arrivals row (a_cluster cluster) = []
served_listener arrivals row (an_assignment rows) = []
served_listener arrivals row (a_listener listener) = record {
  number = row.number;
  name = row.name;
  address = listener.address.host;
  takes_every_address = listener.takes_every_address;
  udp = listener.address.udp;
  restores = listener.restores;
  hands_over = listener.hands_over;
  filter_chains = map (served_chain arrivals row) (placed_from 0 listener.filter_chains);
  default_filter_chain = option_map (λ (c : FilterChain). served_chain arrivals row (placed_default c)) listener.default_filter_chain;
} ∷ []
served_listener arrivals row (routes table) = []
served_listener arrivals row a_secret = []
served_listener arrivals row an_extension = []

-- the active listeners, in the order of their names
abbrev pub served_listeners : List Arrived → List GenRow → List ServedListener
served_listeners arrivals rows = flat_map (λ (row : GenRow). served_listener arrivals row row.content) (active_rows rows Lds)

-- what workers may serve now: each active cluster and, once listeners serve, each active listener
abbrev pub shown_of : World → Shown
shown_of world = record {
  clusters = served_clusters world.arrivals world.results world.rows;
  listeners = if is_serving world.phase then served_listeners world.arrivals world.rows else [];
}

-- the picture that a publication makes now: it has the next version
abbrev pub picture_of : World → Picture
picture_of world = record { version = length world.pictures; shown = shown_of world }

-- both say the same of a cluster's secrets
abbrev pub secrets_same : Secrets → Secrets → Bool
secrets_same There There = true
secrets_same Missing Missing = true
secrets_same Unknown Unknown = true
secrets_same a b = false

-- the same generation of the same cluster, with the same hosts and the same marks
abbrev pub served_cluster_same : ServedCluster → ServedCluster → Bool
served_cluster_same a b =
    (a.number == b.number)
    && bytes_eq a.name b.name
    && rows_same a.hosts b.hosts
    && bool_same a.elsewhere b.elsewhere
    && secrets_same a.secrets b.secrets

-- the same routes, or the same target; what isn't read is one
abbrev pub routing_same : Routing → Routing → Bool
routing_same (Table a) (Table b) = route_table_same a b
routing_same (Tcp a) (Tcp b) = target_same a b
routing_same Other Other = true
routing_same a b = false

-- the same place and origin
abbrev pub stands_same : ServedChain → ServedChain → Bool
stands_same a b = option_eq chain_place_same a.place b.place && option_eq origin_same a.origin b.origin

-- the same connections are taken, with the same routing and the same mark, by the chain of the same place and origin
abbrev pub served_chain_same : ServedChain → ServedChain → Bool
served_chain_same a b =
    stands_same a b
    && filter_chain_match_same a.criteria b.criteria
    && routing_same a.routing b.routing
    && bool_same a.lacks_secret b.lacks_secret

-- the same address, and the same marks
abbrev pub listens_same : ServedListener → ServedListener → Bool
listens_same a b =
    host_same a.address b.address
    && bool_same a.takes_every_address b.takes_every_address
    && bool_same a.udp b.udp
    && bool_same a.restores b.restores
    && bool_same a.hands_over b.hands_over

-- the same generation of the same listener, that listens in the same way, with the same chains in the same order
abbrev pub served_listener_same : ServedListener → ServedListener → Bool
served_listener_same a b =
    listens_same a b
    && (a.number == b.number)
    && bytes_eq a.name b.name
    && pointwise served_chain_same a.filter_chains b.filter_chains
    && option_eq served_chain_same a.default_filter_chain b.default_filter_chain

-- the same clusters and the same listeners
abbrev pub shown_same : Shown → Shown → Bool
shown_same a b = pointwise served_cluster_same a.clusters b.clusters && pointwise served_listener_same a.listeners b.listeners

-- the numbers of the generations that are shown
abbrev pub numbers_shown : Shown → List ℕ
numbers_shown shown = map (λ (c : ServedCluster). c.number) shown.clusters ++ map (λ (l : ServedListener). l.number) shown.listeners

-- the number is among these
abbrev pub has_number : ℕ → List ℕ → Bool
has_number number numbers = list_any (λ n. n == number) numbers

-- the generation of this number is shown
abbrev pub is_shown : ℕ → Shown → Bool
is_shown number shown = has_number number (numbers_shown shown)

pub secrets_decide : (a b : Secrets) → Decides (secrets_same a b) (a ≡ b)
secrets_decide There There = (λ h. refl, λ e. refl)
secrets_decide Missing Missing = (λ h. refl, λ e. refl)
secrets_decide Unknown Unknown = (λ h. refl, λ e. refl)
secrets_decide a b = (λ h. cc, λ e. cc)

pub served_cluster_decides : (a b : ServedCluster) → Decides (served_cluster_same a b) (a ≡ b)
served_cluster_decides a b = decides_as
    (both_decide
    (both_decide (both_decide (both_decide (numbers_decide a.number b.number) (bytes_decide a.name b.name)) (rows_decide a.hosts b.hosts))
    (bool_decides a.elsewhere b.elsewhere))
    (secrets_decide a.secrets b.secrets))
    (λ p. λ i. record { number = p.0.0.0.0 i; name = p.0.0.0.1 i; hosts = p.0.0.1 i; elsewhere = p.0.1 i; secrets = p.1 i })
    (λ e. (
      (
        ((ap (λ (c : ServedCluster). c.number) e, ap (λ (c : ServedCluster). c.name) e), ap (λ (c : ServedCluster). c.hosts) e),
        ap (λ (c : ServedCluster). c.elsewhere) e,
      ),
      ap (λ (c : ServedCluster). c.secrets) e,
    ))

pub routing_decides : (a b : Routing) → Decides (routing_same a b) (a ≡ b)
routing_decides (Table a) (Table b) = decides_as (route_table_decides a b) (λ e. ap Table e) (λ e. cc)
routing_decides (Tcp a) (Tcp b) = decides_as (target_decides a b) (λ e. ap Tcp e) (λ e. cc)
routing_decides Other Other = (λ h. refl, λ e. refl)
routing_decides a b = (λ h. cc, λ e. cc)

pub served_chain_decides : (a b : ServedChain) → Decides (served_chain_same a b) (a ≡ b)
served_chain_decides a b = decides_as
    (both_decide
    (both_decide
    (both_decide
    (both_decide (option_decides chain_place_decides a.place b.place) (option_decides origin_decides a.origin b.origin))
    (filter_chain_match_decides a.criteria b.criteria))
    (routing_decides a.routing b.routing))
    (bool_decides a.lacks_secret b.lacks_secret))
    (λ p. λ i. record { place = p.0.0.0.0 i; origin = p.0.0.0.1 i; criteria = p.0.0.1 i; routing = p.0.1 i; lacks_secret = p.1 i })
    (λ e. (
      (
        (
          (ap (λ (c : ServedChain). c.place) e, ap (λ (c : ServedChain). c.origin) e),
          ap (λ (c : ServedChain). c.criteria) e,
        ),
        ap (λ (c : ServedChain). c.routing) e,
      ),
      ap (λ (c : ServedChain). c.lacks_secret) e,
    ))

pub served_listener_decides : (a b : ServedListener) → Decides (served_listener_same a b) (a ≡ b)
served_listener_decides a b = decides_as
    (both_decide (both_decide (both_decide (both_decide
    (both_decide (both_decide (both_decide (both_decide
    (host_decides a.address b.address)
    (bool_decides a.takes_every_address b.takes_every_address))
    (bool_decides a.udp b.udp))
    (bool_decides a.restores b.restores))
    (bool_decides a.hands_over b.hands_over))
    (numbers_decide a.number b.number))
    (bytes_decide a.name b.name))
    (pointwise_decides served_chain_decides a.filter_chains b.filter_chains))
    (option_decides served_chain_decides a.default_filter_chain b.default_filter_chain))
    (λ p. λ i. record {
      number = p.0.0.0.1 i;
      name = p.0.0.1 i;
      address = p.0.0.0.0.0.0.0.0 i;
      takes_every_address = p.0.0.0.0.0.0.0.1 i;
      udp = p.0.0.0.0.0.0.1 i;
      restores = p.0.0.0.0.0.1 i;
      hands_over = p.0.0.0.0.1 i;
      filter_chains = p.0.1 i;
      default_filter_chain = p.1 i;
    })
    (λ e. (
      (
        (
          (
            (
              (
                (
                  (ap (λ (l : ServedListener). l.address) e, ap (λ (l : ServedListener). l.takes_every_address) e),
                  ap (λ (l : ServedListener). l.udp) e,
                ),
                ap (λ (l : ServedListener). l.restores) e,
              ),
              ap (λ (l : ServedListener). l.hands_over) e,
            ),
            ap (λ (l : ServedListener). l.number) e,
          ),
          ap (λ (l : ServedListener). l.name) e,
        ),
        ap (λ (l : ServedListener). l.filter_chains) e,
      ),
      ap (λ (l : ServedListener). l.default_filter_chain) e,
    ))

-- the test holds of what is equal alone
pub shown_decides : (a b : Shown) → Decides (shown_same a b) (a ≡ b)
shown_decides a b = decides_as
    (both_decide (pointwise_decides served_cluster_decides a.clusters b.clusters) (pointwise_decides served_listener_decides a.listeners b.listeners))
    (λ (p, q). λ i. record { clusters = p i; listeners = q i })
    (λ e. (ap (λ (c : Shown). c.clusters) e, ap (λ (c : Shown). c.listeners) e))
