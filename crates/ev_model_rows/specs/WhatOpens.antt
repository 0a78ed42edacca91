-- A connection that no chain takes opens nothing; one whose way no script tells is open on its listener,
-- and where it goes to a cluster whose hosts Envoy finds by itself, on that cluster too,
-- which stays until it is closed.
use Rattle.std.specs.Prelude.{◌≡◌, List, [], ◌∷◌, codes, false, Some, None}
use Rattle.ev_types.specs.declared.clusters.Discovery.TheVariants.{Elsewhere as found_elsewhere}
use Rattle.ev_types.specs.declared.contents.Kind.TheVariants.{Cds, Lds}
use Rattle.ev_types.specs.declared.events.Answer.TheVariants.{Done, InUse, Moved, Replied, Version, Reaped, NoChain}
use Rattle.ev_types.specs.declared.ways.Way.TheVariants.{Undecided, Elsewhere, NoCluster}
use Rattle.ev_types.specs.declared.events.Verdict.TheVariants.{New}
use Rattle.ev_types.specs.declared.listeners.FilterChain.{FilterChain}
use Rattle.ev_types.specs.declared.listeners.Serve.{Serve}
use Rattle.ev_types.specs.declared.listeners.Serve.TheVariants.{Tcp, Other}
use Rattle.ev_types.specs.declared.routes.Target.TheVariants.{One}
use Rattle.ev_model_rows.specs.Words.{Deed, answers_to, cluster_of, no_criteria, chain_by, chain_for, listener_with, connect, response, publish, reap, accept_of, accept, asked, close, settle, ask, ask_first, ack, settled, on}

-- to the cluster `c`
abbrev pub to_cluster : Serve
to_cluster = Tcp (One (codes "c"))

-- for the server `a` the cluster, for `b` what isn't read, and for `c` the cluster, by where the connection comes from
abbrev pub chains : List FilterChain
chains =
    chain_for (codes "a") to_cluster
    ∷ chain_for (codes "b") Other
    ∷ chain_by (record no_criteria { server_names = codes "c" ∷ []; source_ports = 1 ∷ [] }) to_cluster
    ∷ []

-- the lines, from the second on
abbrev pub deeds : List Deed
deeds =
    connect
    ∷ response Cds (codes "2") (cluster_of (codes "c") found_elsewhere false ∷ []) []
    ∷ response Lds (codes "3") (listener_with (codes "l") 8080 chains None ∷ []) []
    ∷ publish
    ∷ settle
    ∷ accept 1
    ∷ accept 1
    ∷ accept_of (record (asked 1) { server_name = codes "b" })
    ∷ accept 1
    ∷ accept_of (record (asked 2) { server_name = codes "c" })
    ∷ accept 2
    ∷ accept_of (record (asked 3) { server_name = codes "a" })
    ∷ accept 3
    ∷ settle
    ∷ response Cds (codes "15") [] (codes "c" ∷ [])
    ∷ publish
    ∷ settle
    ∷ reap
    ∷ close 3
    ∷ settle
    ∷ reap
    ∷ accept_of (record (asked 4) { server_name = codes "a" })
    ∷ []

-- the answers, each with the number of its line
abbrev pub WhatOpensAnswers : Type 0
WhatOpensAnswers = answers_to deeds
    ≡ (2, Moved (ask_first ∷ []))
    ∷ (3, Replied (ack (codes "2") Cds ∷ ask Lds ∷ []) (New ∷ []))
    ∷ (4, Replied (ack (codes "3") Lds ∷ []) (New ∷ []))
    ∷ (5, Version 1)
    ∷ (6, settled 1)
    ∷ (7, NoChain)
    ∷ (8, NoChain)
    ∷ (9, on 2 (Elsewhere None))
    ∷ (10, InUse)
    ∷ (11, on 2 Undecided)
    ∷ (12, InUse)
    ∷ (13, on 2 (Elsewhere (Some 1)))
    ∷ (14, InUse)
    ∷ (15, settled 1)
    ∷ (16, Replied (ack (codes "15") Cds ∷ []) [])
    ∷ (17, Version 2)
    ∷ (18, settled 2)
    ∷ (19, Reaped [])
    ∷ (20, Done)
    ∷ (21, settled 2)
    ∷ (22, Reaped (1 ∷ []))
    ∷ (23, on 2 NoCluster)
    ∷ (24, settled 2)
    ∷ []
