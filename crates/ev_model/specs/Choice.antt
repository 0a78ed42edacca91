-- Where a connection goes, chosen in a picture: by the listener, its filter chain, what that serves,
-- a route and its action, a cluster, and a host of it. Source:
-- the Envoy v3 API on listeners, filter chains, virtual hosts, routes and weighted clusters,
-- and on priorities and weights of hosts; the pick number is this project's own, for Envoy's load balancing policies.
use Rattle.std.specs.Prelude.{ℕ, ◌-◌, ◌+◌, ◌/◌, ◌%◌, min, Bool, not, ◌&&◌, ◌==◌, nat_lt, if◌then◌else◌, List, [], ◌∷◌, filter, find, map, take, drop, length, Option, Some, None, codes, option_map, slice_get, unwrap_or}
use Rattle.std.specs.List.{flat_map, range_with_len, sum}
use Rattle.std.specs.Option.{option_or}
use Rattle.std.specs.Str.{bytes_eq, str_to_ascii_lowercase}
use Rattle.ev_types.specs.Hosts.{HostRowParts}
use Rattle.ev_types.specs.SameHosts.{host_same}
use Rattle.ev_types.specs.Weights.{weight_sum}
use Rattle.ev_types.specs.declared.hosts.Host.{Host}
use Rattle.ev_types.specs.declared.events.Ask.{Ask}
use Rattle.ev_types.specs.declared.events.Peer.{Peer}
use Rattle.ev_types.specs.declared.ips.Ip.{Ip}
use Rattle.ev_types.specs.declared.ips.Ip.TheVariants.{V4, V6}
use Rattle.ev_types.specs.declared.routes.Action.{Action}
use Rattle.ev_types.specs.declared.routes.Action.TheVariants.{Forward, Redirect as redirect, Local as local, Elsewhere as by_filter}
use Rattle.ev_types.specs.declared.routes.Route.{Route}
use Rattle.ev_types.specs.declared.routes.RouteTable.{RouteTable}
use Rattle.ev_types.specs.declared.routes.Target.{Target}
use Rattle.ev_types.specs.declared.routes.Target.TheVariants.{One, Weighted, Elsewhere as elsewhere}
use Rattle.ev_types.specs.declared.routes.VirtualHost.{VirtualHost}
use Rattle.ev_types.specs.declared.routes.WeightedCluster.{WeightedCluster}
use Rattle.ev_model.specs.Paths.{begins_with, ends_with}
use Rattle.ev_model.specs.Conditions.{Requested, is_no, match_says}
use Rattle.ev_model.specs.Narrowing.{Incoming, chains_left, lacks_source}
use Rattle.ev_model.specs.declared.pictures.Picture.{Picture}
use Rattle.ev_model.specs.declared.pictures.Routing.{Routing}
use Rattle.ev_model.specs.declared.pictures.Routing.TheVariants.{Table, Tcp, Other}
use Rattle.ev_model.specs.declared.pictures.ServedChain.{ServedChain}
use Rattle.ev_model.specs.declared.pictures.ServedCluster.{ServedCluster}
use Rattle.ev_model.specs.declared.pictures.ServedListener.{ServedListener}
use Rattle.ev_types.specs.declared.ways.Way.{Way}
use Rattle.ev_types.specs.declared.ways.Way.TheVariants.{Undecided, Elsewhere, NoRoute, Local, Redirect, NoCluster, NoEndpoint, NoSecret, Served}
use Rattle.ev_model.specs.declared.pictures.Choice.{Choice}
use Rattle.ev_model.specs.declared.pictures.Choice.TheVariants.{NoListener, NoChain, On}
use Rattle.ev_model.specs.declared.pictures.Secrets.{Secrets}
use Rattle.ev_model.specs.declared.pictures.Secrets.TheVariants.{There, Missing, Unknown}
use Rattle.ev_model.specs.declared.pictures.Taken.{Taken}
use Rattle.ev_model.specs.declared.pictures.Taken.TheVariants.{No, Yes, Undecided as undecided}

-- the first of these listeners at this address and port
abbrev pub listener_at : List ServedListener → Host → Option ServedListener
listener_at listeners address = find (λ (l : ServedListener). host_same l.address address) listeners

-- the first of these listeners at this address and port that takes every address
abbrev pub listener_for_every : List ServedListener → ℕ → List ℕ → Option ServedListener
listener_for_every listeners port address =
    listener_at (filter (λ (l : ServedListener). l.takes_every_address) listeners) (record { address = address; port = port })

-- a listener that takes every address, for an IP address: at `0.0.0.0`, for IPv4 alone, else at `::`
abbrev pub listener_of_any : List ServedListener → ℕ → Option Ip → Option ServedListener
listener_of_any listeners port None = None
listener_of_any listeners port (Some (V4 bits)) =
    option_or (listener_for_every listeners port (codes "0.0.0.0")) (listener_for_every listeners port (codes "::"))
listener_of_any listeners port (Some (V6 bits)) = listener_for_every listeners port (codes "::")

-- the listeners that connections reach: those by TCP
abbrev pub streams : List ServedListener → List ServedListener
streams listeners = filter (λ (l : ServedListener). not l.udp) listeners

-- the listener that a connection to this end comes to: at its address and port, else one that takes every address
abbrev pub listener_for : List ServedListener → Peer → Option ServedListener
listener_for listeners peer =
    option_or (listener_at (streams listeners) peer.host) (listener_of_any (streams listeners) peer.host.port peer.ip)

-- where a connection is meant to go
abbrev pub meant_of : Ask → Peer
meant_of ask = record { host = ask.address; ip = ask.ip }

-- where it was delivered
abbrev pub delivered_of : Ask → Peer
delivered_of ask = unwrap_or ask.redirected_to (meant_of ask)

-- the listener that takes a connection, and the end that its chains take it to come to
pub record Reached : Type 0 where
  pub listener : ServedListener
  pub local_end : Peer

-- the listener that takes a connection which was accepted at this one:
-- where it hands over, the one where the connection is meant to go, if there is one
abbrev pub taker_of : List ServedListener → Ask → ServedListener → ServedListener
taker_of listeners ask listener = if listener.hands_over then unwrap_or (listener_for listeners (meant_of ask)) listener else listener

-- a listener that restores takes a connection to come to where it is meant to go, another one to where it was delivered
abbrev pub reached_by : List ServedListener → Ask → ServedListener → Reached
reached_by listeners ask listener =
    if listener.restores
    then record { listener = taker_of listeners ask listener; local_end = meant_of ask }
    else record { listener = listener; local_end = delivered_of ask }

-- what chains look at
abbrev pub incoming_of : Ask → Peer → Incoming
incoming_of ask local_end = record {
  port = local_end.host.port;
  ip = local_end.ip;
  source = ask.source;
  server_name = ask.server_name;
  tls = ask.tls;
  alpn = ask.alpn;
}

-- what routes look at
abbrev pub requested_of : Ask → Requested
requested_of ask = record { host = ask.host; path = ask.path; headers = ask.headers }

-- a domain of a virtual host
pub record HostDomain : Type 0 where
  pub domain : List ℕ
  pub host : VirtualHost

-- each domain of a table with its virtual host, in order, its ASCII letters as lower case
abbrev pub domains_of : RouteTable → List HostDomain
domains_of table =
    flat_map (λ (h : VirtualHost). map (λ domain. record { domain = str_to_ascii_lowercase domain; host = h }) h.domains) table.hosts

-- `*suffix`: it begins with a star and has more than one byte
abbrev pub is_suffix_form : List ℕ → Bool
is_suffix_form domain = begins_with domain (codes "*") && nat_lt 1 (length domain)

-- `prefix*`: it isn't `*suffix`, ends with a star and has more than one byte
abbrev pub is_prefix_form : List ℕ → Bool
is_prefix_form domain = not (is_suffix_form domain) && ends_with domain (codes "*") && nat_lt 1 (length domain)

-- the host is the domain itself
abbrev pub is_domain : List ℕ → HostDomain → Bool
is_domain host d = bytes_eq d.domain host

-- the host ends with the suffix of the domain, and is longer than it
abbrev pub has_suffix : List ℕ → HostDomain → Bool
has_suffix host d = is_suffix_form d.domain && ends_with host (drop 1 d.domain) && nat_lt (length d.domain - 1) (length host)

-- the host begins with the prefix of the domain, and is longer than it
abbrev pub has_prefix : List ℕ → HostDomain → Bool
has_prefix host d = is_prefix_form d.domain && begins_with host (take (length d.domain - 1) d.domain) && nat_lt (length d.domain - 1) (length host)

-- the domain is `*`
abbrev pub is_any : HostDomain → Bool
is_any d = bytes_eq d.domain (codes "*")

-- the longer of two domains, the first where they are as long
abbrev pub longer_of : HostDomain → Option HostDomain → Option HostDomain
longer_of d None = Some d
longer_of d (Some other) = if nat_lt (length d.domain) (length other.domain) then Some other else Some d

-- the first of the longest domains
abbrev pub longest : List HostDomain → Option HostDomain
longest [] = None
longest (d ∷ ds) = longer_of d (longest ds)

-- the longest suffix form whose suffix the host has
abbrev pub by_suffix : List HostDomain → List ℕ → Option HostDomain
by_suffix ds host = longest (filter (has_suffix host) ds)

-- the longest prefix form whose prefix the host has
abbrev pub by_prefix : List HostDomain → List ℕ → Option HostDomain
by_prefix ds host = longest (filter (has_prefix host) ds)

-- the domain that a host in lower case goes by: itself, else by suffix, else by prefix, else `*`
abbrev pub domain_for : List HostDomain → List ℕ → Option HostDomain
domain_for ds host = option_or (find (is_domain host) ds) (option_or (by_suffix ds host) (option_or (by_prefix ds host) (find is_any ds)))

-- the virtual host that a host text goes to
abbrev pub virtual_host_for : RouteTable → List ℕ → Option VirtualHost
virtual_host_for table host = option_map (λ (d : HostDomain). d.host) (domain_for (domains_of table) (str_to_ascii_lowercase host))

-- the first route that doesn't say no
abbrev pub route_for : VirtualHost → Requested → Option Route
route_for h request = find (λ (r : Route). not (is_no (match_says request r.route_match))) h.routes

-- the first place where the weights up to it, and its own, sum to more than n
abbrev pub place_above : ℕ → List ℕ → Option ℕ
place_above n weights = find (λ place. nat_lt n (sum (take (place + 1) weights))) (range_with_len 0 (length weights))

-- the name of a weighted cluster, if there is one
abbrev pub name_in : Option WeightedCluster → List ℕ
name_in None = []
name_in (Some c) = c.name

-- the cluster at this place
abbrev pub name_at : List WeightedCluster → Option ℕ → List ℕ
name_at clusters None = []
name_at clusters (Some place) = name_in (slice_get clusters place)

-- the name of the cluster that a pick takes: the first where the sum of the first weights is above the
-- pick modulo the whole sum
abbrev pub name_picked : List WeightedCluster → ℕ → List ℕ
name_picked clusters pick = name_at clusters (place_above (pick % weight_sum clusters) (map (λ (c : WeightedCluster). c.weight) clusters))

-- the first of these clusters with this name
abbrev pub cluster_named : List ServedCluster → List ℕ → Option ServedCluster
cluster_named clusters name = find (λ (c : ServedCluster). bytes_eq c.name name) clusters

-- the lowest priority of these hosts
abbrev pub lowest_priority : List HostRowParts → ℕ
lowest_priority [] = 0
lowest_priority (h ∷ []) = h.priority
lowest_priority (h ∷ next ∷ hs) = min h.priority (lowest_priority (next ∷ hs))

-- a host's weight counts where its priority is this one
abbrev pub weight_at : ℕ → HostRowParts → ℕ
weight_at priority h = if h.priority == priority then h.weight else 0

-- the weights that count: those of the lowest priority
abbrev pub counted_weights : List HostRowParts → List ℕ
counted_weights hosts = map (weight_at (lowest_priority hosts)) hosts

-- the place of the host that a pick takes: the first of the lowest priority where the sum
-- of the first weights is above the pick modulo the whole sum; there is none where there is no host
abbrev pub host_place : List HostRowParts → ℕ → Option ℕ
host_place [] pick = None
host_place (h ∷ hs) pick = place_above (pick % sum (counted_weights (h ∷ hs))) (counted_weights (h ∷ hs))

-- what becomes of a connection; a host is named by its place in the cluster's list
abbrev pub Course : Type 0
Course = Way ℕ

-- the host is there, or none may be chosen
abbrev pub served_at : ℕ → Option ℕ → Course
served_at cluster None = NoEndpoint
served_at cluster (Some place) = Served cluster place

-- to a host of the cluster, or where Envoy finds one by itself
abbrev pub to_host : ServedCluster → ℕ → Course
to_host cluster pick =
    if cluster.elsewhere then Elsewhere (Some cluster.number) else served_at cluster.number (host_place cluster.hosts pick)

-- by the cluster's secrets: without one each handshake fails;
-- where one may be missing, nothing in a script says where it goes
abbrev pub by_secrets : Secrets → ServedCluster → ℕ → Course
by_secrets There cluster pick = to_host cluster pick
by_secrets Missing cluster pick = NoSecret (Some cluster.number)
by_secrets Unknown cluster pick = Elsewhere (Some cluster.number)

-- no host of the cluster may be chosen, and Envoy finds none by itself
abbrev pub has_no_host : ServedCluster → Bool
has_no_host cluster = not cluster.elsewhere && (length cluster.hosts == 0)

-- by a cluster: first whether it has a host, then its secrets
abbrev pub in_cluster : ServedCluster → ℕ → Course
in_cluster cluster pick = if has_no_host cluster then NoEndpoint else by_secrets cluster.secrets cluster pick

-- with the cluster, if there is one
abbrev pub course_in : Option ServedCluster → ℕ → Course
course_in None pick = NoCluster
course_in (Some cluster) pick = in_cluster cluster pick

-- to a target: of several clusters one is picked, and its hosts get the pick divided by the sum of the weights
abbrev pub forwarded : Picture → ℕ → Target → Course
forwarded picture pick (One name) = course_in (cluster_named picture.shown.clusters name) pick
forwarded picture pick (Weighted clusters) =
    course_in (cluster_named picture.shown.clusters (name_picked clusters pick)) (pick / weight_sum clusters)
forwarded picture pick elsewhere = Elsewhere None

-- by an action: a direct response and a redirect are answered at once
abbrev pub acted : Picture → ℕ → Action → Course
acted picture pick (Forward target) = forwarded picture pick target
acted picture pick redirect = Redirect
acted picture pick (local status) = Local status
acted picture pick by_filter = Elsewhere None

-- by what a route says, and its action
abbrev pub by_word : Picture → ℕ → Action → Taken → Course
by_word picture pick action No = NoRoute
by_word picture pick action Yes = acted picture pick action
by_word picture pick action undecided = Undecided

-- by the route, if there is one
abbrev pub by_route : Picture → Ask → Option Route → Course
by_route picture ask None = NoRoute
by_route picture ask (Some route) = by_word picture ask.pick route.action (match_says (requested_of ask) route.route_match)

-- by the virtual host, if there is one
abbrev pub by_host : Picture → Ask → Option VirtualHost → Course
by_host picture ask None = NoRoute
by_host picture ask (Some h) = by_route picture ask (route_for h (requested_of ask))

-- by what a chain serves
abbrev pub by_routing : Picture → Ask → Routing → Course
by_routing picture ask (Table table) = by_host picture ask (virtual_host_for table ask.host)
by_routing picture ask (Tcp target) = forwarded picture ask.pick target
by_routing picture ask Other = Elsewhere None

-- by a chain: without a secret of its own no handshake succeeds, whatever it serves
abbrev pub course_of : Picture → Ask → ServedChain → Course
course_of picture ask chain = if chain.lacks_secret then NoSecret None else by_routing picture ask chain.routing

-- by the chain, if there is one
abbrev pub by_chain : Picture → Ask → ℕ → Option ServedChain → Choice
by_chain picture ask listener None = NoChain
by_chain picture ask listener (Some chain) = On listener chain.place chain.origin (course_of picture ask chain)

-- the chain that is left, else the default chain
abbrev pub chain_left : List ServedChain → Option ServedChain → Option ServedChain
chain_left chains default = option_or (slice_get chains 0) default

-- by the chains that are left; where one of them asks for a source and none is given, nothing in a script decides
abbrev pub by_chains : Picture → Ask → ServedListener → Incoming → List ServedChain → Choice
by_chains picture ask listener incoming chains =
    if lacks_source incoming chains
    then On listener.number None None Undecided
    else by_chain picture ask listener.number (chain_left chains listener.default_filter_chain)

-- by the listener that takes it
abbrev pub by_reached : Picture → Ask → Reached → Choice
by_reached picture ask reached =
    let incoming = incoming_of ask reached.local_end in
    by_chains picture ask reached.listener incoming (chains_left incoming reached.listener.filter_chains)

-- by the listener that it comes to, if there is one
abbrev pub by_listener : Picture → Ask → Option ServedListener → Choice
by_listener picture ask None = NoListener
by_listener picture ask (Some listener) = by_reached picture ask (reached_by picture.shown.listeners ask listener)

-- where a connection goes
abbrev pub choice_of : Picture → Ask → Choice
choice_of picture ask = by_listener picture ask (listener_for picture.shown.listeners (delivered_of ask))
