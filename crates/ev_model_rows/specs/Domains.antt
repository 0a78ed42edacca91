-- A virtual host is found by its domains: one that is equal, then the longest suffix, then `*`;
-- ASCII letters in either case.
use Rattle.std.specs.Prelude.{◌≡◌, ℕ, List, [], ◌∷◌, codes, None}
use Rattle.ev_types.specs.declared.contents.Kind.TheVariants.{Cds, Lds}
use Rattle.ev_types.specs.declared.events.Answer.TheVariants.{Moved, Replied, Version}
use Rattle.ev_types.specs.declared.ways.Way.TheVariants.{Local}
use Rattle.ev_types.specs.declared.events.Verdict.TheVariants.{New}
use Rattle.ev_types.specs.declared.listeners.Serve.TheVariants.{Inline}
use Rattle.ev_types.specs.declared.routes.Action.TheVariants.{Local as local}
use Rattle.ev_types.specs.declared.routes.PathMatch.TheVariants.{Prefix}
use Rattle.ev_types.specs.declared.routes.VirtualHost.{VirtualHost}
use Rattle.ev_types.specs.declared.routes.RouteTable.{RouteTable}
use Rattle.ev_model_rows.specs.Words.{Deed, answers_to, pictures_of, listener_at, at_path, connect, response, fetch_timeout, publish, accept_with, settle, ask, ask_first, ack, settled, on}

-- a virtual host of one domain that answers each path with a status
abbrev pub answering : List ℕ → List ℕ → ℕ → VirtualHost
answering name domain status = record {
  name = name;
  domains = domain ∷ [];
  routes = record { route_match = at_path (Prefix (codes "/")); action = local status } ∷ [];
}

-- three virtual hosts, of the domains `*`, `*.a.com` and `b.a.com`
abbrev pub table : RouteTable
table = record {
  hosts = answering (codes "x") (codes "*") 200 ∷ answering (codes "y") (codes "*.a.com") 201 ∷ answering (codes "z") (codes "b.a.com") 202 ∷ [];
}

-- the lines, from the second on
abbrev pub deeds : List Deed
deeds =
    connect
    ∷ fetch_timeout Cds None
    ∷ response Lds (codes "1") (listener_at (codes "in") 8080 (Inline table) ∷ []) []
    ∷ publish
    ∷ settle
    ∷ accept_with 1 (codes "b.a.com") (codes "/") 0
    ∷ accept_with 2 (codes "c.a.com") (codes "/") 0
    ∷ accept_with 3 (codes ".a.com") (codes "/") 0
    ∷ accept_with 4 (codes "B.A.COM") (codes "/") 0
    ∷ []

-- the answers, each with the number of its line
abbrev pub DomainsAnswers : Type 0
DomainsAnswers = answers_to deeds
    ≡ (2, Moved (ask_first ∷ []))
    ∷ (3, Moved (ask Lds ∷ []))
    ∷ (4, Replied (ack (codes "1") Lds ∷ []) (New ∷ []))
    ∷ (5, Version 1)
    ∷ (6, settled 1)
    ∷ (7, on 1 (Local 202))
    ∷ (8, on 1 (Local 201))
    ∷ (9, on 1 (Local 200))
    ∷ (10, on 1 (Local 202))
    ∷ (11, settled 1)
    ∷ []

-- the pictures: clusters by number with the hosts that may be chosen, and listeners by number
abbrev pub DomainsPictures : Type 0
DomainsPictures = pictures_of deeds
    ≡ ([], [])
    ∷ ([], (1 ∷ []))
    ∷ []
