-- A choice in a picture names generations that the picture shows,
-- and so does the connection that it opens; its chain is one of the listener that it names.
use Rattle.std.proofs.Common.{◌≡◌, ℕ, Bool, true, ◌==◌, ◌||◌, ◌/◌, List, [], ◌∷◌, map, filter, Option, Some, None, refl, ap, ◌∙◌, subst}
use Rattle.std.specs.Prelude.{codes, unwrap_or, not, slice_get, option_to_list}
use Rattle.std.specs.Bool.{⊤}
use Rattle.std.specs.List.{All, Contains, find, list_any}
use Rattle.std.specs.Option.{IfSome, option_or}
use Rattle.std.proofs.lemmas.Bool.{false≢true, cond_both, or_left, or_right}
use Rattle.std.proofs.lemmas.Option.{IfSome_then}
use Rattle.std.proofs.lemmas.List.Elements.{All-filter, All-head, Contains-append_left, Contains-append_right}
use Rattle.std.proofs.lemmas.List.Folds.{list_any-append}
use Rattle.ev_types.specs.Same.{numbers_decide}
use Rattle.ev_types.specs.Origins.{origin_decides}
use Rattle.ev_types.specs.Weights.{weight_sum}
use Rattle.ev_types.specs.declared.events.Ask.{Ask}
use Rattle.ev_types.specs.declared.events.Peer.{Peer}
use Rattle.ev_types.specs.declared.filter_chains.FilterChainMatch.{FilterChainMatch}
use Rattle.ev_types.specs.declared.hosts.Host.{Host}
use Rattle.ev_types.specs.declared.ips.Ip.{Ip}
use Rattle.ev_types.specs.declared.ips.Ip.TheVariants.{V4, V6}
use Rattle.ev_types.specs.declared.origins.Origin.{Origin}
use Rattle.ev_types.specs.declared.routes.Action.{Action}
use Rattle.ev_types.specs.declared.routes.Action.TheVariants.{Forward, Redirect as redirect, Local as local, Elsewhere as by_filter}
use Rattle.ev_types.specs.declared.routes.Route.{Route}
use Rattle.ev_types.specs.declared.routes.Target.{Target}
use Rattle.ev_types.specs.declared.routes.Target.TheVariants.{One, Weighted, Elsewhere as elsewhere}
use Rattle.ev_types.specs.declared.routes.VirtualHost.{VirtualHost}
use Rattle.ev_types.specs.declared.ways.Way.TheVariants.{Undecided, Elsewhere, NoRoute, Local, Redirect, NoCluster, NoEndpoint, NoSecret, Served}
use Rattle.ev_model.specs.declared.pictures.Picture.{Picture}
use Rattle.ev_model.specs.declared.pictures.Shown.{Shown}
use Rattle.ev_model.specs.declared.pictures.Routing.{Routing}
use Rattle.ev_model.specs.declared.pictures.Routing.TheVariants.{Table, Tcp, Other}
use Rattle.ev_model.specs.declared.pictures.Secrets.{Secrets}
use Rattle.ev_model.specs.declared.pictures.Secrets.TheVariants.{There, Missing, Unknown}
use Rattle.ev_model.specs.declared.pictures.ServedChain.{ServedChain}
use Rattle.ev_model.specs.declared.pictures.ServedCluster.{ServedCluster}
use Rattle.ev_model.specs.declared.pictures.ServedListener.{ServedListener}
use Rattle.ev_model.specs.declared.pictures.Choice.{Choice}
use Rattle.ev_model.specs.declared.pictures.Choice.TheVariants.{NoListener, NoChain, On}
use Rattle.ev_model.specs.declared.pictures.Taken.{Taken}
use Rattle.ev_model.specs.declared.pictures.Taken.TheVariants.{No, Yes, Undecided as undecided}
use Rattle.ev_model.specs.Conditions.{match_says}
use Rattle.ev_model.specs.Narrowing.{Incoming, chains_with, narrowed, is_asked, by_destination, by_source, chains_left, lacks_source, names_brought, transport_of, source_type_of, by_port, by_address, by_server_name, by_transport, by_direct_source, by_source_type, by_source_range}
use Rattle.ev_model.specs.Picture.{has_number, is_shown}
use Rattle.ev_model.specs.Dead.{is_open_on, is_forwarded_to}
use Rattle.ev_model.specs.Choice.{Course, listener_at, listener_for_every, listener_of_any, listener_for, streams, meant_of, delivered_of, Reached, taker_of, reached_by, incoming_of, requested_of, virtual_host_for, route_for, name_picked, cluster_named, host_place, served_at, by_secrets, has_no_host, course_in, forwarded, acted, by_word, by_route, by_host, by_routing, course_of, by_chain, chain_left, by_chains, by_listener, choice_of}
use Rattle.ev_model.specs.Connections.{cluster_on, members_of, host_at, served_by, way_of, shares_origin, chains_shown, shows_chain}
use Rattle.ev_model.specs.Entries.{cluster_named_by}
use Rattle.ev_model_laws.proofs.AnyLemmas.{or_so, any_only, any_mapped}
use Rattle.ev_model_laws.proofs.TidyLists.{all_of, any_at, first_in, found_in, left_in}
use Rattle.std.specs.Str.{bytes_eq, str_to_ascii_lowercase}
use Rattle.ev_types.specs.Ips.{cidr_range_same, ranges_about}
use Rattle.ev_types.specs.FilterChains.{nat_same, source_type_same, ports, prefix_ranges, server_names, transports, application_protocols, direct_ranges, source_types, source_ranges, source_ports}

-- a cluster, or a listener, of what is shown is shown by its number
pub cluster_shown : (shown : Shown) (cluster : ServedCluster) → Contains shown.clusters cluster → is_shown cluster.number shown ≡ true
cluster_shown shown cluster there =
    list_any-append (λ n. n == cluster.number) _ _
    ∙ or_left _ _
    (any_mapped (λ n. n == cluster.number) (λ (c : ServedCluster). c.number) shown.clusters
    ∙ any_at (λ (c : ServedCluster). c.number == cluster.number) shown.clusters cluster there ((numbers_decide cluster.number cluster.number).1 refl))

pub listener_shown : (shown : Shown) (listener : ServedListener) → Contains shown.listeners listener → is_shown listener.number shown ≡ true
listener_shown shown listener there =
    list_any-append (λ n. n == listener.number) (map (λ (c : ServedCluster). c.number) shown.clusters) (map (λ (l : ServedListener). l.number) shown.listeners)
    ∙ or_right (has_number listener.number (map (λ (c : ServedCluster). c.number) shown.clusters)) _
    (any_mapped (λ n. n == listener.number) (λ (l : ServedListener). l.number) shown.listeners
    ∙ any_at (λ (l : ServedListener). l.number == listener.number) shown.listeners listener there ((numbers_decide listener.number listener.number).1 refl))

-- a chain of the listener has this origin, where there is one
abbrev pub HasOrigin : ServedListener → Option Origin → Type 0
HasOrigin listener origin = IfSome origin (λ o. shows_chain (Some o) listener ≡ true)

-- a listener that is shown takes the connection, by a chain of its own where one was found,
-- and the cluster that it is on is shown
pub record TakesIt (shown : Shown) (listener : ℕ) (origin : Option Origin) (course : Course) : Type 0 where
  pub taker : ServedListener
  pub among : Contains shown.listeners taker
  pub numbered : taker.number ≡ listener
  pub chain : HasOrigin taker origin
  pub cluster : IfSome (cluster_on course) (λ c. is_shown c shown ≡ true)

-- the generations that a choice names are shown
abbrev pub ShowsChosen : Shown → Choice → Type 0
ShowsChosen shown NoListener = ⊤
ShowsChosen shown NoChain = ⊤
ShowsChosen shown (On listener chain origin course) = TakesIt shown listener origin course

module _ (picture : Picture) where
  -- the cluster that a connection is on by its course is shown
  abbrev OnShown : Course → Type 0
  OnShown course = IfSome (cluster_on course) (λ c. is_shown c picture.shown ≡ true)

  served_on : (cluster : ℕ) (place : Option ℕ) → is_shown cluster picture.shown ≡ true → OnShown (served_at cluster place)
  served_on cluster None also = tt
  served_on cluster (Some place) also = also

  secrets_on : (secrets : Secrets) (cluster : ServedCluster) (pick : ℕ) → is_shown cluster.number picture.shown ≡ true
      → OnShown (by_secrets secrets cluster pick)
  secrets_on There cluster pick also =
      cond_both cluster.elsewhere (Elsewhere (Some cluster.number)) (served_at cluster.number (host_place cluster.hosts pick)) OnShown
      (λ is. also) (λ isnt. served_on cluster.number (host_place cluster.hosts pick) also)
  secrets_on Missing cluster pick also = also
  secrets_on Unknown cluster pick also = also

  found_on : (cluster : Option ServedCluster) (pick : ℕ) → IfSome cluster (λ c. is_shown c.number picture.shown ≡ true)
      → OnShown (course_in cluster pick)
  found_on None pick also = tt
  found_on (Some cluster) pick also =
      cond_both (has_no_host cluster) NoEndpoint (by_secrets cluster.secrets cluster pick) OnShown
      (λ none. tt) (λ some. secrets_on cluster.secrets cluster pick also)

  named_on : (name : List ℕ) (pick : ℕ) → OnShown (course_in (cluster_named picture.shown.clusters name) pick)
  named_on name pick =
      found_on (cluster_named picture.shown.clusters name) pick
      (IfSome_then (cluster_named picture.shown.clusters name) (found_in _ picture.shown.clusters)
      (λ (c : ServedCluster) there. cluster_shown picture.shown c there.0))

  target_on : (pick : ℕ) (target : Target) → OnShown (forwarded picture pick target)
  target_on pick (One name) = named_on name pick
  target_on pick (Weighted clusters) = named_on (name_picked clusters pick) (pick / weight_sum clusters)
  target_on pick elsewhere = tt

  action_on : (pick : ℕ) (action : Action) → OnShown (acted picture pick action)
  action_on pick (Forward target) = target_on pick target
  action_on pick redirect = tt
  action_on pick (local status) = tt
  action_on pick by_filter = tt

  word_on : (pick : ℕ) (action : Action) (word : Taken) → OnShown (by_word picture pick action word)
  word_on pick action No = tt
  word_on pick action Yes = action_on pick action
  word_on pick action undecided = tt

  route_on : (ask : Ask) (route : Option Route) → OnShown (by_route picture ask route)
  route_on ask None = tt
  route_on ask (Some route) = word_on ask.pick route.action (match_says (requested_of ask) route.route_match)

  host_on : (ask : Ask) (host : Option VirtualHost) → OnShown (by_host picture ask host)
  host_on ask None = tt
  host_on ask (Some host) = route_on ask (route_for host (requested_of ask))

  routing_on : (ask : Ask) (routing : Routing) → OnShown (by_routing picture ask routing)
  routing_on ask (Table table) = host_on ask (virtual_host_for table ask.host)
  routing_on ask (Tcp target) = target_on ask.pick target
  routing_on ask Other = tt

  chain_on : (ask : Ask) (chain : ServedChain) → OnShown (course_of picture ask chain)
  chain_on ask chain =
      cond_both chain.lacks_secret (NoSecret None) (by_routing picture ask chain.routing) OnShown (λ lacks. tt) (λ has. routing_on ask chain.routing)

-- what holds of all chains holds of those that are left
module _ (P : ServedChain → Type 0) where
  with_all : {A : Type 0} (same : A → A → Bool) (values : FilterChainMatch → List A) (chains : List ServedChain) (value : Option A)
      → All P chains → All P (chains_with same values chains value)
  with_all same values chains None each = All-filter _ P chains each
  with_all same values chains (Some value) each = All-filter _ P chains each

  narrowed_all : {A : Type 0} (same : A → A → Bool) (values : FilterChainMatch → List A) (brought : List A) (chains : List ServedChain)
      → All P chains → All P (narrowed same values brought chains)
  narrowed_all same values brought chains each = with_all same values chains (find (is_asked same values chains) brought) each

  source_all : (local_ip : Option Ip) (source : Option Peer) (chains : List ServedChain) → All P chains → All P (by_source local_ip source chains)
  source_all local_ip None chains each = each
  source_all local_ip (Some source) chains each =
      let direct : All P (by_direct_source source chains) = narrowed_all cidr_range_same direct_ranges (ranges_about source.ip) chains each in
      let typed : All P (by_source_type local_ip source (by_direct_source source chains)) =
      narrowed_all source_type_same source_types (source_type_of local_ip source.ip ∷ []) (by_direct_source source chains) direct in
      let ranged : All P (by_source_range source (by_source_type local_ip source (by_direct_source source chains))) =
      narrowed_all cidr_range_same source_ranges (ranges_about source.ip) (by_source_type local_ip source (by_direct_source source chains)) typed in
      narrowed_all nat_same source_ports (source.host.port ∷ []) (by_source_range source (by_source_type local_ip source (by_direct_source source chains))) ranged

  destination_all : (incoming : Incoming) (chains : List ServedChain) → All P chains → All P (by_destination incoming chains)
  destination_all incoming chains each =
      let first : List ServedChain = by_port incoming chains in
      let second : List ServedChain = by_address incoming first in
      let third : List ServedChain = by_server_name incoming second in
      let fourth : List ServedChain = by_transport incoming third in
      let one : All P first = narrowed_all nat_same ports (incoming.port ∷ []) chains each in
      let two : All P second = narrowed_all cidr_range_same prefix_ranges (ranges_about incoming.ip) first one in
      let three : All P third = narrowed_all bytes_eq server_names (names_brought (str_to_ascii_lowercase incoming.server_name)) second two in
      let four : All P fourth = narrowed_all bytes_eq transports (transport_of incoming.tls ∷ []) third three in
      narrowed_all bytes_eq application_protocols incoming.alpn fourth four

  left_all : (incoming : Incoming) (chains : List ServedChain) → All P chains → All P (chains_left incoming chains)
  left_all incoming chains each =
      source_all incoming.ip incoming.source (by_destination incoming chains) (destination_all incoming chains each)

  first_of : (chains : List ServedChain) → All P chains → IfSome (slice_get chains 0) P
  first_of [] each = tt
  first_of (chain ∷ chains) each = All-head P chain chains each

-- what holds of two options holds of the first that is there
either_has : {X : Type 0} (P : X → Type 0) (first second : Option X) → IfSome first P → IfSome second P → IfSome (option_or first second) P
either_has P None second one other = other
either_has P (Some x) second one other = one

module _ (listener : ServedListener) where
  -- an origin that passes for one of the listener's chains is one of its origins
  origin_by : (origin : Option Origin) (chain : ServedChain) → chain.origin ≡ origin → Contains (chains_shown listener) chain
      → HasOrigin listener origin
  origin_by None chain is there = tt
  origin_by (Some o) chain is there =
      any_at (λ (c : ServedChain). shares_origin (Some o) c.origin) (chains_shown listener) chain there
      (ap (shares_origin (Some o)) is ∙ (origin_decides o o).1 refl)

  chain_has : (chain : ServedChain) → Contains (chains_shown listener) chain → HasOrigin listener chain.origin
  chain_has chain there = origin_by chain.origin chain refl there

  default_has : (default : Option ServedChain) → ((chain : ServedChain) → Contains (option_to_list default) chain → HasOrigin listener chain.origin)
      → IfSome default (λ c. HasOrigin listener c.origin)
  default_has None each = tt
  default_has (Some chain) each = each chain (first_in chain [])

  -- the chain that is left, or the default chain, is one of the listener's
  left_has : (incoming : Incoming)
      → IfSome (chain_left (chains_left incoming listener.filter_chains) listener.default_filter_chain) (λ c. HasOrigin listener c.origin)
  left_has incoming =
      let matched : List ServedChain = listener.filter_chains in
      let default : List ServedChain = option_to_list listener.default_filter_chain in
      either_has (λ (c : ServedChain). HasOrigin listener c.origin) (slice_get (chains_left incoming matched) 0) listener.default_filter_chain
      (first_of (λ (c : ServedChain). HasOrigin listener c.origin) (chains_left incoming matched)
      (left_all (λ (c : ServedChain). HasOrigin listener c.origin) incoming matched
      (all_of (λ (c : ServedChain). HasOrigin listener c.origin) matched (λ chain there. chain_has chain (Contains-append_left matched default chain there)))))
      (default_has listener.default_filter_chain (λ chain there. chain_has chain (Contains-append_right matched default chain there)))

module _ (shown : Shown) where
  -- the listener is shown
  abbrev IsListed : ServedListener → Type 0
  IsListed l = Contains shown.listeners l

  -- one that is found among the streams, or among some of those, is
  at_listed : (address : Host) → IfSome (listener_at (streams shown.listeners) address) IsListed
  at_listed address =
      IfSome_then (listener_at (streams shown.listeners) address) (found_in _ (streams shown.listeners))
      (λ (l : ServedListener) there. (left_in (λ (s : ServedListener). not s.udp) shown.listeners l there.0).0)

  every_listed : (port : ℕ) (address : List ℕ) → IfSome (listener_for_every (streams shown.listeners) port address) IsListed
  every_listed port address =
      IfSome_then (listener_for_every (streams shown.listeners) port address)
      (found_in _ (filter (λ (l : ServedListener). l.takes_every_address) (streams shown.listeners)))
      (λ (l : ServedListener) there.
      (left_in (λ (s : ServedListener). not s.udp) shown.listeners l
      (left_in (λ (s : ServedListener). s.takes_every_address) (streams shown.listeners) l there.0).0).0)

  any_listed : (port : ℕ) (ip : Option Ip) → IfSome (listener_of_any (streams shown.listeners) port ip) IsListed
  any_listed port None = tt
  any_listed port (Some (V4 bits)) =
      either_has IsListed (listener_for_every (streams shown.listeners) port (codes "0.0.0.0"))
      (listener_for_every (streams shown.listeners) port (codes "::"))
      (every_listed port (codes "0.0.0.0")) (every_listed port (codes "::"))
  any_listed port (Some (V6 bits)) = every_listed port (codes "::")

  peer_listed : (peer : Peer) → IfSome (listener_for shown.listeners peer) IsListed
  peer_listed peer =
      either_has IsListed (listener_at (streams shown.listeners) peer.host)
      (listener_of_any (streams shown.listeners) peer.host.port peer.ip)
      (at_listed peer.host) (any_listed peer.host.port peer.ip)

  -- the listener that takes a connection is one that was found, or the one that it came to
  found_or_listed : (found : Option ServedListener) (listener : ServedListener) → IfSome found IsListed → IsListed listener
      → IsListed (unwrap_or found listener)
  found_or_listed None listener known own = own
  found_or_listed (Some other) listener known own = known

  taken_listed : (ask : Ask) (listener : ServedListener) → IsListed listener → IsListed (taker_of shown.listeners ask listener)
  taken_listed ask listener own =
      let meant = listener_for shown.listeners (meant_of ask) in
      cond_both listener.hands_over (unwrap_or meant listener) listener IsListed
      (λ hands. found_or_listed meant listener (peer_listed (meant_of ask)) own) (λ keeps. own)

  reached_listed : (ask : Ask) (listener : ServedListener) → IsListed listener → IsListed (reached_by shown.listeners ask listener).listener
  reached_listed ask listener own =
      cond_both listener.restores (record { listener = taker_of shown.listeners ask listener; local_end = meant_of ask })
      (record { listener = listener; local_end = delivered_of ask }) (λ (r : Reached). IsListed r.listener)
      (λ restores. taken_listed ask listener own) (λ isnt. own)

module _ (picture : Picture) (ask : Ask) (listener : ServedListener) (shown : IsListed picture.shown listener) where
  left_chosen : (chain : Option ServedChain) → IfSome chain (λ c. HasOrigin listener c.origin)
      → ShowsChosen picture.shown (by_chain picture ask listener.number chain)
  left_chosen None has = tt
  left_chosen (Some chain) has = record {
    taker = listener;
    among = shown;
    numbered = refl;
    chain = has;
    cluster = chain_on picture ask chain;
  }

  chains_chosen : (incoming : Incoming)
      → ShowsChosen picture.shown (by_chains picture ask listener incoming (chains_left incoming listener.filter_chains))
  chains_chosen incoming =
      let chains : List ServedChain = chains_left incoming listener.filter_chains in
      let left : Option ServedChain = chain_left chains listener.default_filter_chain in
      cond_both (lacks_source incoming chains) (On listener.number None None Undecided) (by_chain picture ask listener.number left)
      (ShowsChosen picture.shown)
      (λ asks. record { taker = listener; among = shown; numbered = refl; chain = tt; cluster = tt })
      (λ none. left_chosen left (left_has listener incoming))

listener_chosen : (picture : Picture) (ask : Ask) (listener : Option ServedListener) → IfSome listener (IsListed picture.shown)
    → ShowsChosen picture.shown (by_listener picture ask listener)
listener_chosen picture ask None shown = tt
listener_chosen picture ask (Some listener) shown =
    let reached : Reached = reached_by picture.shown.listeners ask listener in
    chains_chosen picture ask reached.listener (reached_listed picture.shown ask listener shown) (incoming_of ask reached.local_end)

-- a choice in a picture names what the picture shows
pub choice_shown : (picture : Picture) (ask : Ask) → ShowsChosen picture.shown (choice_of picture ask)
choice_shown picture ask =
    listener_chosen picture ask (listener_for picture.shown.listeners (delivered_of ask)) (peer_listed picture.shown (delivered_of ask))

-- the listener that takes a connection is shown
pub taker_shown : (shown : Shown) (listener : ℕ) (origin : Option Origin) (course : Course) → TakesIt shown listener origin course
    → is_shown listener shown ≡ true
taker_shown shown listener origin course takes =
    subst (λ n. is_shown n shown ≡ true) takes.numbered (listener_shown shown takes.taker takes.among)

forwarded_shown : (shown : Shown) (number : ℕ) (cluster : Option ℕ) → IfSome cluster (λ c. is_shown c shown ≡ true)
    → is_forwarded_to number cluster ≡ true → is_shown number shown ≡ true
forwarded_shown shown number None also h = absurd (false≢true h)
forwarded_shown shown number (Some cluster) also h = subst (λ n. is_shown n shown ≡ true) ((numbers_decide cluster number).0 h) also

-- what is the listener, or the cluster, of a connection that a shown listener takes is shown
pub taken_shown : (shown : Shown) (number listener : ℕ) (origin : Option Origin) (course : Course) → TakesIt shown listener origin course
    → ((listener == number) || is_forwarded_to number (cluster_on course)) ≡ true → is_shown number shown ≡ true
taken_shown shown number listener origin course takes h =
    or_so (listener == number) (is_forwarded_to number (cluster_on course))
    (λ same. subst (λ n. is_shown n shown ≡ true) ((numbers_decide listener number).0 same) (taker_shown shown listener origin course takes))
    (forwarded_shown shown number (cluster_on course) takes.cluster) h

-- what a choice opens is open on what is shown
pub opens_shown : (shown : Shown) (worker connection number : ℕ) (choice : Choice) → ShowsChosen shown choice
    → list_any (is_open_on number) (members_of worker connection choice) ≡ true → is_shown number shown ≡ true
opens_shown shown worker connection number NoListener chosen h = absurd (false≢true h)
opens_shown shown worker connection number NoChain chosen h = absurd (false≢true h)
opens_shown shown worker connection number (On listener chain origin course) chosen h =
    taken_shown shown number listener origin course chosen
    (any_only (is_open_on number)
    (record { worker = worker; connection = connection; listener = listener; cluster = cluster_on course; origin = origin }) h)

host_names : (number cluster : ℕ) (host : Option Host) → is_forwarded_to number (cluster_named_by (served_by cluster host)) ≡ true
    → (cluster == number) ≡ true
host_names number cluster None h = absurd (false≢true h)
host_names number cluster (Some host) h = h

-- an answer names no other cluster than the one that the connection is on
pub way_names : (picture : Picture) (number : ℕ) (course : Course) → is_forwarded_to number (cluster_named_by (way_of picture course)) ≡ true
    → is_forwarded_to number (cluster_on course) ≡ true
way_names picture number Undecided h = absurd (false≢true h)
way_names picture number (Elsewhere cluster) h = h
way_names picture number NoRoute h = absurd (false≢true h)
way_names picture number (Local status) h = absurd (false≢true h)
way_names picture number Redirect h = absurd (false≢true h)
way_names picture number NoCluster h = absurd (false≢true h)
way_names picture number NoEndpoint h = absurd (false≢true h)
way_names picture number (NoSecret cluster) h = h
way_names picture number (Served cluster place) h = host_names number cluster (host_at picture cluster place) h
