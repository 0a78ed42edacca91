-- A proxy with two workers boots, serves and closes.
use Rattle.std.specs.Prelude.{◌≡◌, ℕ, List, [], ◌∷◌, true, false, codes, Some}
use Rattle.ev_types.specs.declared.contents.Kind.TheVariants.{Cds, Eds, Lds, Rds}
use Rattle.ev_types.specs.declared.events.Answer.TheVariants.{Done, Moved, Replied, Version, Reaped}
use Rattle.ev_types.specs.declared.events.Verdict.TheVariants.{New, Kept}
use Rattle.ev_types.specs.Scripts.{ScriptParts}
use Rattle.ev_types.specs.declared.routes.Action.TheVariants.{Forward}
use Rattle.ev_types.specs.declared.routes.PathMatch.TheVariants.{Prefix}
use Rattle.ev_types.specs.declared.routes.Target.TheVariants.{One}
use Rattle.ev_types.specs.declared.routes.Route.{Route}
use Rattle.ev_types.specs.declared.routes.RouteTable.{RouteTable}
use Rattle.ev_model_rows.specs.Words.{Deed, script_with, answers_in, pictures_in, by_worker, host_row, eds_cluster, checked_cluster, hosts_of, rds_listener, at_path, routes_of, connect, response, health, publish, reap, accept_with, close, settle, ask, ask_first, ack, subscribe, served, settled}

-- a route by the beginning of the path
abbrev pub route_to : List ℕ → List ℕ → Route
route_to front cluster = record { route_match = at_path (Prefix front); action = Forward (One cluster) }

-- three routes, by `/api`, `/img` and `/`
abbrev pub table : RouteTable
table = record {
  hosts = record {
    name = codes "v";
    domains = codes "*" ∷ [];
    routes = route_to (codes "/api") (codes "api") ∷ route_to (codes "/img") (codes "img") ∷ route_to (codes "/") (codes "web") ∷ [];
  } ∷ [];
}

-- the lines, from the second on
abbrev pub deeds : List Deed
deeds =
    connect
    ∷ response Cds (codes "1") (eds_cluster (codes "web") (codes "web") ∷ checked_cluster (codes "api") ∷ eds_cluster (codes "img") (codes "img") ∷ []) []
    ∷ response Eds (codes "2") (hosts_of (codes "web") (host_row (codes "1") ∷ []) ∷ hosts_of (codes "api") (host_row (codes "2") ∷ []) ∷ hosts_of (codes "img") (host_row (codes "3") ∷ []) ∷ []) []
    ∷ health (codes "api") (codes "2") true
    ∷ response Lds (codes "3") (rds_listener (codes "in") 8080 (codes "r") ∷ []) []
    ∷ response Rds (codes "4") (routes_of (codes "r") table ∷ []) []
    ∷ publish
    ∷ settle
    ∷ by_worker 1 settle
    ∷ accept_with 1 [] (codes "/api/x") 0
    ∷ by_worker 1 (accept_with 1 [] (codes "/") 0)
    ∷ settle
    ∷ close 1
    ∷ by_worker 1 (close 1)
    ∷ by_worker 1 settle
    ∷ reap
    ∷ []

-- the script, with two workers and a node of its own
abbrev pub script : ScriptParts
script = script_with 2 false (codes "edge-1") deeds

-- the answers, each with the number of its line
abbrev pub RealisticAnswers : Type 0
RealisticAnswers = answers_in script
    ≡ (2, Moved (record ask_first { node = Some (codes "edge-1") } ∷ []))
    ∷ (3, Replied (ack (codes "1") Cds ∷ subscribe Eds (codes "api" ∷ codes "img" ∷ codes "web" ∷ []) ∷ []) (New ∷ New ∷ New ∷ []))
    ∷ (4, Replied (ack (codes "2") Eds ∷ []) (Kept ∷ Kept ∷ Kept ∷ []))
    ∷ (5, Moved (ask Lds ∷ []))
    ∷ (6, Replied (ack (codes "3") Lds ∷ subscribe Rds (codes "r" ∷ []) ∷ []) (New ∷ []))
    ∷ (7, Replied (ack (codes "4") Rds ∷ []) (Kept ∷ []))
    ∷ (8, Version 1)
    ∷ (9, settled 1)
    ∷ (10, settled 1)
    ∷ (11, served 4 2 (codes "2"))
    ∷ (13, settled 1)
    ∷ (12, served 4 1 (codes "1"))
    ∷ (15, Done)
    ∷ (16, settled 1)
    ∷ (17, Reaped [])
    ∷ (14, Done)
    ∷ (18, settled 1)
    ∷ (18, settled 1)
    ∷ []

-- the pictures: clusters by number with the hosts that may be chosen, and listeners by number
abbrev pub RealisticPictures : Type 0
RealisticPictures = pictures_in script
    ≡ ([], [])
    ∷ (((2, (codes "10.0.0.2" ∷ [])) ∷ (3, (codes "10.0.0.3" ∷ [])) ∷ (1, (codes "10.0.0.1" ∷ [])) ∷ []), (4 ∷ []))
    ∷ []
