-- Short words for the scripts and answers of worked rows. This project's own.
use Rattle.std.specs.Prelude.{ℕ, ◌+◌, ◌*◌, ◌^◌, Bool, true, false, List, [], ◌∷◌, ◌++◌, length, map, codes, option_map, Option, Some, None}
use Rattle.ev_types.specs.Hosts.{HostRowParts}
use Rattle.ev_types.specs.Items.{ItemParts}
use Rattle.ev_types.specs.Scripts.{ScriptParts}
use Rattle.ev_types.specs.declared.hosts.Host.{Host}
use Rattle.ev_types.specs.declared.contents.Kind.{Kind}
use Rattle.ev_types.specs.declared.contents.Kind.TheVariants.{Cds}
use Rattle.ev_types.specs.declared.contents.Body.TheVariants.{Good, Beat}
use Rattle.ev_types.specs.declared.contents.Content.TheVariants.{Cluster, Assignment, Listener, Routes}
use Rattle.ev_types.specs.declared.contents.Request.{Request}
use Rattle.ev_types.specs.declared.clusters.Discovery.{Discovery}
use Rattle.ev_types.specs.declared.clusters.Discovery.TheVariants.{Static, Eds as by_eds}
use Rattle.ev_types.specs.declared.filter_chains.FilterChainMatch.{FilterChainMatch}
use Rattle.ev_types.specs.declared.ips.Ip.TheVariants.{V4}
use Rattle.ev_types.specs.declared.listeners.FilterChain.{FilterChain}
use Rattle.ev_types.specs.declared.listeners.Serve.{Serve}
use Rattle.ev_types.specs.declared.listeners.Serve.TheVariants.{Rds as by_rds, Tcp}
use Rattle.ev_types.specs.declared.routes.Target.TheVariants.{One}
use Rattle.ev_types.specs.declared.matchers.PathSpecifier.TheVariants.{Cased}
use Rattle.ev_types.specs.declared.matchers.RouteMatch.{RouteMatch}
use Rattle.ev_types.specs.declared.routes.Action.TheVariants.{Local}
use Rattle.ev_types.specs.declared.routes.PathMatch.{PathMatch}
use Rattle.ev_types.specs.declared.routes.PathMatch.TheVariants.{Prefix}
use Rattle.ev_types.specs.declared.routes.RouteTable.{RouteTable}
use Rattle.ev_types.specs.declared.events.Ask.{Ask}
use Rattle.ev_types.specs.declared.events.Actor.{Actor}
use Rattle.ev_types.specs.declared.events.Actor.TheVariants.{Stream, Health as health_checker, Timer, Main, Worker}
use Rattle.ev_types.specs.declared.events.Event.{Event}
use Rattle.ev_types.specs.declared.events.Event.TheVariants.{Connect, Disconnect, Response, Health, FetchTimeout, DrainTimeout, TtlExpired, Publish, Reap, Accept, Close, Settle}
use Rattle.ev_types.specs.declared.events.Answer.{Answer}
use Rattle.ev_types.specs.declared.events.Answer.TheVariants.{On, Settled}
use Rattle.ev_types.specs.declared.ways.Way.{Way}
use Rattle.ev_types.specs.declared.ways.Way.TheVariants.{Served}
use Rattle.ev_types.specs.declared.events.Entry.{Entry}
use Rattle.ev_types.specs.declared.events.Line.{Line}
use Rattle.ev_types.specs.declared.events.Profile.TheVariants.{Own}
use Rattle.ev_types.specs.declared.journals.Format.{Format}
use Rattle.ev_types.specs.declared.journals.Format.TheVariants.{Two}
use Rattle.ev_model.specs.declared.pictures.Shown.{Shown}
use Rattle.ev_model.specs.declared.pictures.ServedCluster.{ServedCluster}
use Rattle.ev_model.specs.declared.pictures.ServedListener.{ServedListener}
use Rattle.ev_model.specs.World.{opening}
use Rattle.ev_model.specs.Runs.{world_after}
use Rattle.ev_model.specs.Operations.{replay_order}

-- hosts are named by the end of their address: host `h` is 10.0.0.h at port 80
abbrev pub host : List ℕ → Host
host last = record { address = codes "10.0.0." ++ last; port = 80 }

-- a host that may be used, of weight 1
abbrev pub host_row : List ℕ → HostRowParts
host_row last = record { host = host last; weight = 1; priority = 0; usable = true }

-- a cluster with the text of its body, under the version `v1`
abbrev pub cluster_with : List ℕ → Discovery → Bool → List ℕ → ItemParts
cluster_with name discovery checked text = record {
  name = name;
  version = codes "v1";
  ttl = false;
  body = Good (Cluster (record { name = name; discovery = discovery; checked = checked; secrets = []; secrets_by_match = None; body_text = text }));
}

-- the same without the text
abbrev pub cluster_of : List ℕ → Discovery → Bool → ItemParts
cluster_of name discovery checked = cluster_with name discovery checked []

-- a static cluster with these hosts
abbrev pub static_cluster : List ℕ → List HostRowParts → ItemParts
static_cluster name hosts = cluster_of name (Static hosts) false

-- a cluster whose hosts come under the name of a service
abbrev pub eds_cluster : List ℕ → List ℕ → ItemParts
eds_cluster name service = cluster_of name (by_eds service true false) false

-- the same with an initial fetch timeout of 0: it waits without limit
abbrev pub patient_cluster : List ℕ → List ℕ → ItemParts
patient_cluster name service = cluster_of name (by_eds service false false) false

-- a cluster whose hosts come under its own name and are health checked
abbrev pub checked_cluster : List ℕ → ItemParts
checked_cluster name = cluster_of name (by_eds name true false) true

-- a cluster whose hosts come under its own name and have to come anew, with the text of its body
abbrev pub fresh_cluster : List ℕ → List ℕ → ItemParts
fresh_cluster name text = cluster_with name (by_eds name true true) false text

-- the hosts of a service
abbrev pub hosts_of : List ℕ → List HostRowParts → ItemParts
hosts_of name hosts = record { name = name; version = codes "e1"; ttl = false; body = Good (Assignment hosts) }

-- a match of chains that asks for nothing
abbrev pub no_criteria : FilterChainMatch
no_criteria = record {
  destination_port = None;
  prefix_ranges = [];
  server_names = [];
  transport_protocol = None;
  application_protocols = [];
  direct_source_prefix_ranges = [];
  source_type = None;
  source_prefix_ranges = [];
  source_ports = [];
}

-- a chain that serves the connections that its match takes
abbrev pub chain_by : FilterChainMatch → Serve → FilterChain
chain_by criteria serve = record { criteria = criteria; serve = serve; secrets = []; extensions = []; body_text = [] }

-- a chain that serves every connection
abbrev pub open_chain : Serve → FilterChain
open_chain serve = chain_by no_criteria serve

-- a chain that serves the connections to a server
abbrev pub chain_for : List ℕ → Serve → FilterChain
chain_for name serve = chain_by (record no_criteria { server_names = name ∷ [] }) serve

-- a listener at a host by TCP, with its mark, chains, default chain and the text of its body, under the version `v1`
abbrev pub listener_by : List ℕ → Host → Bool → List FilterChain → Option Serve → List ℕ → ItemParts
listener_by name address every chains default text = record {
  name = name;
  version = codes "v1";
  ttl = false;
  body = Good (Listener (record {
    name = name;
    address = record { host = address; udp = false };
    takes_every_address = every;
    restores = false;
    hands_over = false;
    filter_chains = chains;
    default_filter_chain = option_map open_chain default;
    extensions = [];
    frame_text = [];
    body_text = text;
  }));
}

-- a listener at 10.1.0.1 and a port, with chains and a default chain
abbrev pub listener_with : List ℕ → ℕ → List FilterChain → Option Serve → ItemParts
listener_with name port chains default = listener_by name (record { address = codes "10.1.0.1"; port = port }) false chains default []

-- a listener at 10.1.0.1 and a port that serves every connection
abbrev pub listener_at : List ℕ → ℕ → Serve → ItemParts
listener_at name port serve = listener_with name port (open_chain serve ∷ []) None

-- a TCP listener that forwards to a cluster
abbrev pub tcp_listener : List ℕ → ℕ → List ℕ → ItemParts
tcp_listener name port cluster = listener_at name port (Tcp (One cluster))

-- a listener whose routes come under a name
abbrev pub rds_listener : List ℕ → ℕ → List ℕ → ItemParts
rds_listener name port routes = listener_at name port (by_rds routes true)

-- a match of a path in its case, without a condition
abbrev pub at_path : PathMatch → RouteMatch
at_path path = record { path = Cased path; conditions = [] }

-- routes that answer each request with a status
abbrev pub answering_all : ℕ → RouteTable
answering_all status = record {
  hosts = record {
    name = codes "v";
    domains = codes "*" ∷ [];
    routes = record { route_match = at_path (Prefix []); action = Local status } ∷ [];
  } ∷ [];
}

-- the routes of a name
abbrev pub routes_of : List ℕ → RouteTable → ItemParts
routes_of name table = record { name = name; version = codes "v1"; ttl = false; body = Good (Routes table) }

-- the same resource with a time to live
abbrev pub with_ttl : ItemParts → ItemParts
with_ttl item = record item { ttl = true }

-- a heartbeat under a version
abbrev pub beat : List ℕ → List ℕ → ItemParts
beat name version = record { name = name; version = version; ttl = true; body = Beat }

-- what an actor does at a line
pub record Deed : Type 0 where
  pub actor : Actor
  pub event : Event

-- a stream opens
abbrev pub connect : Deed
connect = record { actor = Stream; event = Connect }

-- the stream is lost
abbrev pub disconnect : Deed
disconnect = record { actor = Stream; event = Disconnect }

-- a response of this kind with a nonce, resources and removed names
abbrev pub response : Kind → List ℕ → List ItemParts → List (List ℕ) → Deed
response kind nonce items removed =
    record { actor = Stream; event = Response (record { kind = Some kind; nonce = nonce; items = items; removed = removed }) }

-- a health result of host h of a cluster
abbrev pub health : List ℕ → List ℕ → Bool → Deed
health cluster last healthy = record { actor = health_checker; event = Health cluster (host last) healthy }

-- an initial fetch timeout comes
abbrev pub fetch_timeout : Kind → Option (List ℕ) → Deed
fetch_timeout kind name = record { actor = Timer; event = FetchTimeout (record { kind = kind; name = name }) }

-- the drain timeout of a listener's old generations comes
abbrev pub drain_timeout : List ℕ → Deed
drain_timeout listener = record { actor = Timer; event = DrainTimeout listener }

-- the time to live of a resource comes to its end
abbrev pub ttl_expired : Kind → List ℕ → Deed
ttl_expired kind name = record { actor = Timer; event = TtlExpired kind name }

-- the main thread publishes
abbrev pub publish : Deed
publish = record { actor = Main; event = Publish }

-- the main thread reaps
abbrev pub reap : Deed
reap = record { actor = Main; event = Reap }

-- the same deed by another worker
abbrev pub by_worker : ℕ → Deed → Deed
by_worker worker deed = record { actor = Worker worker; event = deed.event }

-- a connection to 10.1.0.1, port 8080, with the path `/`, the pick 0, and nothing else
abbrev pub asked : ℕ → Ask
asked connection = record {
  conn = connection;
  address = record { address = codes "10.1.0.1"; port = 8080 };
  ip = Some (V4 (10 * 2 ^ 24 + 2 ^ 16 + 1));
  source = None;
  redirected_to = None;
  server_name = [];
  tls = false;
  alpn = [];
  host = [];
  path = codes "/";
  headers = [];
  pick = 0;
}

-- the same to another port
abbrev pub asked_at : ℕ → ℕ → Ask
asked_at connection port = record (asked connection) { address = record { address = codes "10.1.0.1"; port = port } }

-- worker 0 accepts a connection
abbrev pub accept_of : Ask → Deed
accept_of ask = record { actor = Worker 0; event = Accept ask }

-- worker 0 accepts a connection at 10.1.0.1, port 8080, with a host, a path and a pick
abbrev pub accept_with : ℕ → List ℕ → List ℕ → ℕ → Deed
accept_with connection named path pick = accept_of (record (asked connection) { host = named; path = path; pick = pick })

-- the same without a host, with the path `/` and the pick 0
abbrev pub accept : ℕ → Deed
accept connection = accept_with connection [] (codes "/") 0

-- worker 0 closes a connection
abbrev pub close : ℕ → Deed
close connection = record { actor = Worker 0; event = Close connection }

-- worker 0 settles
abbrev pub settle : Deed
settle = record { actor = Worker 0; event = Settle }

-- the lines of these deeds, numbered from here on
abbrev pub lines_from : ℕ → List Deed → List Line
lines_from at [] = []
lines_from at (deed ∷ deeds) = record { at = at; actor = deed.actor; event = deed.event } ∷ lines_from (at + 1) deeds

-- a script of these deeds for this many workers and a node; the header is its first line
abbrev pub script_with : ℕ → Bool → List ℕ → List Deed → ScriptParts
script_with workers auto node deeds =
    record { workers = workers; auto = auto; profile = Own; node = node; lines = lines_from 2 deeds; count = length deeds + 1 }

-- the same with one worker and the default node
abbrev pub script_of : List Deed → ScriptParts
script_of deeds = script_with 1 false (codes "warmgate") deeds

-- where an entry is in its script, and its answer
abbrev pub told : Entry → ℕ × Answer
told entry = (entry.at, entry.answer)

-- what a replay of a script answers by the rules of a format, each answer with its line, in the order of the journal
abbrev pub answers_by : Format → ScriptParts → List (ℕ × Answer)
answers_by format script = map told (replay_order format script)

-- the same by those of format 2
abbrev pub answers_in : ScriptParts → List (ℕ × Answer)
answers_in script = answers_by Two script

-- what a replay of these deeds answers
abbrev pub answers_to : List Deed → List (ℕ × Answer)
answers_to deeds = answers_in (script_of deeds)

-- a cluster that is shown: its number, and the addresses of the hosts that may be chosen
abbrev pub cluster_shown : ServedCluster → ℕ × List (List ℕ)
cluster_shown cluster = (cluster.number, map (λ (h : HostRowParts). h.host.address) cluster.hosts)

-- what a picture shows: its clusters with their hosts, and its listeners
abbrev pub picture_shown : Shown → List (ℕ × List (List ℕ)) × List ℕ
picture_shown shown = (map cluster_shown shown.clusters, map (λ (l : ServedListener). l.number) shown.listeners)

-- the pictures after a replay of a script, from the empty one on
abbrev pub pictures_in : ScriptParts → List (List (ℕ × List (List ℕ)) × List ℕ)
pictures_in script = map picture_shown (world_after Two (opening script.workers script.node) (replay_order Two script)).pictures

-- the pictures after a replay of these deeds
abbrev pub pictures_of : List Deed → List (List (ℕ × List (List ℕ)) × List ℕ)
pictures_of deeds = pictures_in (script_of deeds)

-- a request of this kind with nothing else in it
abbrev pub ask : Kind → Request
ask kind = record { kind = kind; node = None; subscribe = []; unsubscribe = []; versions = []; nonce = None; error = None }

-- the first request of a stream: clusters, with the node
abbrev pub ask_first : Request
ask_first = record (ask Cds) { node = Some (codes "warmgate") }

-- a response is acknowledged by its nonce
abbrev pub ack : List ℕ → Kind → Request
ack nonce kind = record (ask kind) { nonce = Some nonce }

-- a response is refused with a message
abbrev pub nack : List ℕ → Kind → List ℕ → Request
nack nonce kind message = record (ask kind) { nonce = Some nonce; error = Some message }

-- names that are watched newly
abbrev pub subscribe : Kind → List (List ℕ) → Request
subscribe kind names = record (ask kind) { subscribe = names }

-- names that are watched no longer
abbrev pub unsubscribe : Kind → List (List ℕ) → Request
unsubscribe kind names = record (ask kind) { unsubscribe = names }

-- a listener takes a connection, by the profile of this project's own, where chains aren't told apart
abbrev pub on : ℕ → Way Host → Answer
on listener way = On listener None way

-- a connection is served by host h
abbrev pub served : ℕ → ℕ → List ℕ → Answer
served listener cluster last = on listener (Served cluster (host last))

-- a settle that closes nothing
abbrev pub settled : ℕ → Answer
settled version = Settled [] [] version
