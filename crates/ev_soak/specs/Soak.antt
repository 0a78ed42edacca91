-- The script of a seed: which lines it has, and what is drawn for each. This project's own.
use Rattle.std.specs.Prelude.{ℕ, zero, suc, ◌+◌, ◌-◌, Bool, true, false, not, ◌==◌, nat_lt, if◌then◌else◌, List, [], ◌∷◌, ◌++◌, map, codes, decimal, Some, None}
use Rattle.std.specs.List.{range_with_len}
use Rattle.ev_types.specs.Hosts.{HostRowParts}
use Rattle.ev_types.specs.Ips.{ip_of}
use Rattle.ev_types.specs.Items.{ItemParts}
use Rattle.ev_types.specs.Scripts.{ScriptParts}
use Rattle.ev_types.specs.declared.clusters.Discovery.TheVariants.{Eds as by_service}
use Rattle.ev_types.specs.declared.contents.Body.TheVariants.{Good}
use Rattle.ev_types.specs.declared.contents.Content.{Content}
use Rattle.ev_types.specs.declared.contents.Content.TheVariants.{Cluster, Assignment, Listener, Routes}
use Rattle.ev_types.specs.declared.contents.Kind.{Kind}
use Rattle.ev_types.specs.declared.contents.Kind.TheVariants.{Cds, Eds, Lds, Rds}
use Rattle.ev_types.specs.declared.events.Actor.TheVariants.{Stream, Health, Timer, Worker}
use Rattle.ev_types.specs.declared.events.Event.TheVariants.{Connect, Response, Health as health, FetchTimeout, DrainTimeout, Accept, Close, Settle}
use Rattle.ev_types.specs.declared.events.Line.{Line}
use Rattle.ev_types.specs.declared.events.Profile.TheVariants.{Own}
use Rattle.ev_types.specs.declared.filter_chains.FilterChainMatch.{FilterChainMatch}
use Rattle.ev_types.specs.declared.hosts.Host.{Host}
use Rattle.ev_types.specs.declared.listeners.FilterChain.{FilterChain}
use Rattle.ev_types.specs.declared.listeners.Serve.TheVariants.{Rds as by_routes}
use Rattle.ev_types.specs.declared.matchers.PathSpecifier.TheVariants.{Cased}
use Rattle.ev_types.specs.declared.matchers.RouteMatch.{RouteMatch}
use Rattle.ev_types.specs.declared.routes.Action.TheVariants.{Forward}
use Rattle.ev_types.specs.declared.routes.PathMatch.TheVariants.{Prefix}
use Rattle.ev_types.specs.declared.routes.Target.TheVariants.{One}
use Rattle.ev_soak.specs.declared.forms.Form.{Form}
use Rattle.ev_soak.specs.declared.forms.Form.TheVariants.{Clusters, Endpoints, Listeners, RouteTables, HealthResults, FetchTimeouts, DrainTimeouts, Removals, Settles, Accepts, Closes}
use Rattle.ev_soak.specs.Draws.{next_state, behind, drawn}

-- ---- names and parts

-- a word and a number
abbrev pub numbered : List ℕ → ℕ → List ℕ
numbered word n = word ++ decimal n

abbrev pub cluster_name : ℕ → List ℕ
cluster_name n = numbered (codes "c") n

abbrev pub listener_name : ℕ → List ℕ
listener_name n = numbered (codes "l") n

abbrev pub routes_name : ℕ → List ℕ
routes_name n = numbered (codes "r") n

-- the host of this number, which is the last part of its address
abbrev pub host_numbered : ℕ → Host
host_numbered n = record { address = numbered (codes "10.0.0.") n; port = 80 }

abbrev pub host_row : ℕ → HostRowParts
host_row n = record { host = host_numbered n; weight = 1; priority = 0; usable = true }

-- where listeners listen
abbrev pub listening : ℕ → Host
listening port = record { address = codes "10.1.0.1"; port = port }

-- ---- contents

-- the cluster of this number, whose hosts come by its own name
abbrev pub cluster_content : ℕ → Bool → Content
cluster_content n checked = Cluster (record {
  name = cluster_name n;
  discovery = by_service (cluster_name n) true false;
  checked = checked;
  secrets = [];
  secrets_by_match = None;
  body_text = [];
})

-- the first hosts, this many
abbrev pub hosts_content : ℕ → Content
hosts_content count = Assignment (map host_row (range_with_len 1 count))

-- what a filter chain asks for that takes every connection
abbrev pub no_criteria : FilterChainMatch
no_criteria = record {
  destination_port = None;
  prefix_ranges = [];
  server_names = [];
  transport_protocol = None;
  application_protocols = [];
  direct_source_prefix_ranges = [];
  source_type = None;
  source_prefix_ranges = [];
  source_ports = [];
}

-- a filter chain that takes every connection, with the routes of this number
abbrev pub chain_for : ℕ → FilterChain
chain_for n = record {
  criteria = no_criteria;
  serve = by_routes (routes_name n) true;
  secrets = [];
  extensions = [];
  body_text = [];
}

-- the listener of this number, whose routes come by the name of this number
abbrev pub listener_content : ℕ → ℕ → Content
listener_content n port = Listener (record {
  name = listener_name n;
  address = record { host = listening port; udp = false };
  takes_every_address = false;
  restores = false;
  hands_over = false;
  filter_chains = chain_for n ∷ [];
  default_filter_chain = None;
  extensions = [];
  frame_text = [];
  body_text = [];
})

-- every path is taken
abbrev pub every_path : RouteMatch
every_path = record { path = Cased (Prefix (codes "/")); conditions = [] }

-- one virtual host for all, with one route for all paths, to the cluster of this number
abbrev pub routes_content : ℕ → Content
routes_content n = Routes (record {
  hosts = record {
    name = codes "v";
    domains = codes "*" ∷ [];
    routes = record { route_match = every_path; action = Forward (One (cluster_name n)) } ∷ [];
  } ∷ [];
})

-- ---- lines

-- a line of the stream with a response, whose nonce has the line's number
abbrev pub response_line : ℕ → Kind → List ItemParts → List (List ℕ) → Line
response_line at kind items removed = record {
  at = at;
  actor = Stream;
  event = Response (record { kind = Some kind; nonce = numbered (codes "n") at; items = items; removed = removed });
}

-- a line of the stream with one resource, whose version is the line's number
abbrev pub resource_line : ℕ → Kind → List ℕ → Content → Line
resource_line at kind name content =
    response_line at kind (record { name = name; version = decimal at; ttl = false; body = Good content } ∷ []) []

abbrev pub health_line : ℕ → ℕ → ℕ → Bool → Line
health_line at cluster host healthy =
    record { at = at; actor = Health; event = health (cluster_name cluster) (host_numbered host) healthy }

abbrev pub fetch_timeout_line : ℕ → ℕ → Line
fetch_timeout_line at cluster =
    record { at = at; actor = Timer; event = FetchTimeout (record { kind = Eds; name = Some (cluster_name cluster) }) }

abbrev pub drain_timeout_line : ℕ → ℕ → Line
drain_timeout_line at listener = record { at = at; actor = Timer; event = DrainTimeout (listener_name listener) }

abbrev pub settle_line : ℕ → ℕ → Line
settle_line at worker = record { at = at; actor = Worker worker; event = Settle }

abbrev pub accept_line : ℕ → ℕ → ℕ → ℕ → ℕ → Line
accept_line at worker connection port pick = record {
  at = at;
  actor = Worker worker;
  event = Accept (record {
    conn = connection;
    address = listening port;
    ip = ip_of (listening port).address;
    source = None;
    redirected_to = None;
    server_name = [];
    tls = false;
    alpn = [];
    host = codes "a";
    path = codes "/";
    headers = [];
    pick = pick;
  });
}

abbrev pub close_line : ℕ → ℕ → ℕ → Line
close_line at worker connection = record { at = at; actor = Worker worker; event = Close connection }

-- ---- what is drawn

-- the form of a line, by what is drawn from 14 for it
unfoldable pub form_of : ℕ → Form
form_of d =
    if d == 0 then Clusters
    else (if d == 1 then Endpoints
    else (if d == 2 then Listeners
    else (if d == 3 then RouteTables
    else (if d == 4 then HealthResults
    else (if d == 5 then FetchTimeouts
    else (if d == 6 then DrainTimeouts
    else (if d == 7 then Removals
    else (if d == 8 then Settles
    else (if nat_lt d 12 then Accepts
    else Closes)))))))))

-- how many draws a line of a form takes after that of its form
abbrev pub draws_of : Form → ℕ
draws_of Clusters = 2
draws_of Endpoints = 2
draws_of Listeners = 2
draws_of RouteTables = 2
draws_of HealthResults = 3
draws_of FetchTimeouts = 1
draws_of DrainTimeouts = 1
draws_of Removals = 1
draws_of Settles = 1
draws_of Accepts = 4
draws_of Closes = 2

-- a line of a form, by its number and the state after the draw of its form
abbrev pub line_drawn : Form → ℕ → ℕ → Line
line_drawn Clusters at x =
    resource_line at Cds (cluster_name (drawn 8 x)) (cluster_content (drawn 8 x) (drawn 2 (behind 1 x) == 1))
line_drawn Endpoints at x = resource_line at Eds (cluster_name (drawn 8 x)) (hosts_content (1 + drawn 3 (behind 1 x)))
line_drawn Listeners at x =
    resource_line at Lds (listener_name (drawn 4 x)) (listener_content (drawn 4 x) (8000 + drawn 6 (behind 1 x)))
line_drawn RouteTables at x = resource_line at Rds (routes_name (drawn 4 x)) (routes_content (drawn 8 (behind 1 x)))
line_drawn HealthResults at x =
    health_line at (drawn 8 x) (1 + drawn 3 (behind 1 x)) (not (drawn 4 (behind 2 x) == 0))
line_drawn FetchTimeouts at x = fetch_timeout_line at (drawn 8 x)
line_drawn DrainTimeouts at x = drain_timeout_line at (drawn 4 x)
line_drawn Removals at x = response_line at Cds [] (cluster_name (drawn 8 x) ∷ [])
line_drawn Settles at x = settle_line at (drawn 2 x)
line_drawn Accepts at x =
    accept_line at (drawn 2 x) (drawn 200 (behind 1 x)) (8000 + drawn 6 (behind 2 x)) (drawn 1000 (behind 3 x))
line_drawn Closes at x = close_line at (drawn 2 x) (drawn 200 (behind 1 x))

-- this many lines from this one on, by the state before the draw of its form
abbrev pub lines_drawn : ℕ → ℕ → ℕ → List Line
lines_drawn zero at x = []
lines_drawn (suc count) at x =
    let form = form_of (drawn 14 x) in
    line_drawn form at (next_state x) ∷ lines_drawn count (at + 1) (behind (draws_of form) (next_state x))

-- the script: a stream opens, and each other line is drawn
abbrev pub soak_script : ℕ → ℕ → ScriptParts
soak_script seed count = record {
  workers = 2;
  auto = true;
  profile = Own;
  node = codes "soak";
  lines = record { at = 2; actor = Stream; event = Connect } ∷ lines_drawn (count - 1) 3 seed;
  count = count + 1;
}
