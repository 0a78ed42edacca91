-- The first route that doesn't say no decides: where it is open, nothing in a script decides the connection's way.
use Rattle.std.specs.Prelude.{◌≡◌, ℕ, List, [], ◌∷◌, codes, false}
use Rattle.ev_types.specs.declared.contents.Kind.TheVariants.{Cds, Lds}
use Rattle.ev_types.specs.declared.events.Answer.TheVariants.{Moved, Replied, Version}
use Rattle.ev_types.specs.declared.ways.Way.TheVariants.{Local, NoRoute, Undecided}
use Rattle.ev_types.specs.declared.events.Verdict.TheVariants.{New}
use Rattle.ev_types.specs.declared.listeners.Serve.TheVariants.{Inline}
use Rattle.ev_types.specs.declared.matchers.HeaderTest.TheVariants.{Present}
use Rattle.ev_types.specs.declared.matchers.PathSpecifier.TheVariants.{Cased}
use Rattle.ev_types.specs.declared.matchers.RouteCondition.{RouteCondition}
use Rattle.ev_types.specs.declared.matchers.RouteCondition.TheVariants.{Header, Grpc, Open}
use Rattle.ev_types.specs.declared.routes.Action.TheVariants.{Local as local}
use Rattle.ev_types.specs.declared.routes.PathMatch.TheVariants.{Prefix}
use Rattle.ev_types.specs.declared.routes.Route.{Route}
use Rattle.ev_types.specs.declared.routes.RouteTable.{RouteTable}
use Rattle.ev_model_rows.specs.Words.{Deed, answers_to, listener_at, connect, response, publish, accept_of, asked, settle, ask, ask_first, ack, settled, on}

-- a route by the beginning of the path and conditions, that answers with a status
abbrev pub route_by : List ℕ → List RouteCondition → ℕ → Route
route_by front conditions status =
    record { route_match = record { path = Cased (Prefix (front)); conditions = conditions }; action = local status }

-- the header `x` is there
abbrev pub has_x : RouteCondition
has_x = Header (record { name = codes "x"; test = Present; invert_match = false; treat_missing_header_as_empty = false })

-- a condition that isn't decided beside one on a header, gRPC, neither, one that isn't decided alone, and every path
abbrev pub table : RouteTable
table = record {
  hosts = record {
    name = codes "v";
    domains = codes "*" ∷ [];
    routes =
        route_by (codes "/a") (has_x ∷ Open ∷ []) 200
        ∷ route_by (codes "/a") (Grpc ∷ []) 201
        ∷ route_by (codes "/a/b") [] 202
        ∷ route_by (codes "/") (Open ∷ []) 203
        ∷ route_by (codes "/") [] 204
        ∷ [];
  } ∷ [];
}

-- the lines, from the second on
abbrev pub deeds : List Deed
deeds =
    connect
    ∷ response Cds (codes "2") [] []
    ∷ response Lds (codes "3") (listener_at (codes "l") 8080 (Inline table) ∷ []) []
    ∷ publish
    ∷ settle
    ∷ accept_of (record (asked 6) { path = codes "/a/b" })
    ∷ accept_of (record (asked 7) { path = codes "/a/b"; headers = (codes "x", []) ∷ [] })
    ∷ accept_of (record (asked 8) { path = codes "/c" })
    ∷ accept_of (record (asked 9) { path = codes "/a"; headers = (codes "content-type", codes "application/grpc") ∷ [] })
    ∷ accept_of (record (asked 10) { path = codes "c" })
    ∷ []

-- the answers, each with the number of its line
abbrev pub OpenRoutesAnswers : Type 0
OpenRoutesAnswers = answers_to deeds
    ≡ (2, Moved (ask_first ∷ []))
    ∷ (3, Replied (ack (codes "2") Cds ∷ ask Lds ∷ []) [])
    ∷ (4, Replied (ack (codes "3") Lds ∷ []) (New ∷ []))
    ∷ (5, Version 1)
    ∷ (6, settled 1)
    ∷ (7, on 1 (Local 202))
    ∷ (8, on 1 Undecided)
    ∷ (9, on 1 Undecided)
    ∷ (10, on 1 (Local 201))
    ∷ (11, on 1 NoRoute)
    ∷ (12, settled 1)
    ∷ []
