-- The drain timer of a listener: connections on its old generation are closed when their worker settles.
use Rattle.std.specs.Prelude.{◌≡◌, List, [], ◌∷◌, codes}
use Rattle.ev_types.specs.declared.contents.Kind.TheVariants.{Cds, Lds}
use Rattle.ev_types.specs.declared.events.Answer.TheVariants.{Ignored, Done, Moved, Replied, Version, Reaped, NotOpen, Settled}
use Rattle.ev_types.specs.declared.ways.Way.TheVariants.{NoCluster}
use Rattle.ev_types.specs.declared.events.Verdict.TheVariants.{New}
use Rattle.ev_model_rows.specs.Words.{Deed, answers_to, pictures_of, host_row, static_cluster, tcp_listener, connect, response, drain_timeout, publish, reap, accept, close, settle, ask, ask_first, ack, served, settled, on}

-- the lines, from the second on
abbrev pub deeds : List Deed
deeds =
    connect
    ∷ response Cds (codes "1") (static_cluster (codes "c") (host_row (codes "1") ∷ []) ∷ []) []
    ∷ response Lds (codes "2") (tcp_listener (codes "in") 8080 (codes "c") ∷ []) []
    ∷ publish
    ∷ settle
    ∷ accept 1
    ∷ response Lds (codes "3") (tcp_listener (codes "in") 8080 (codes "d") ∷ []) []
    ∷ publish
    ∷ drain_timeout (codes "in")
    ∷ drain_timeout (codes "in")
    ∷ settle
    ∷ close 1
    ∷ accept 2
    ∷ settle
    ∷ reap
    ∷ []

-- the answers, each with the number of its line
abbrev pub DrainTimerAnswers : Type 0
DrainTimerAnswers = answers_to deeds
    ≡ (2, Moved (ask_first ∷ []))
    ∷ (3, Replied (ack (codes "1") Cds ∷ ask Lds ∷ []) (New ∷ []))
    ∷ (4, Replied (ack (codes "2") Lds ∷ []) (New ∷ []))
    ∷ (5, Version 1)
    ∷ (6, settled 1)
    ∷ (8, Replied (ack (codes "3") Lds ∷ []) (New ∷ []))
    ∷ (9, Version 2)
    ∷ (10, Done)
    ∷ (11, Ignored)
    ∷ (7, served 2 1 (codes "1"))
    ∷ (12, Settled (1 ∷ []) [] 2)
    ∷ (13, NotOpen)
    ∷ (14, on 3 NoCluster)
    ∷ (15, settled 2)
    ∷ (16, Reaped (2 ∷ []))
    ∷ (17, settled 2)
    ∷ []

-- the pictures: clusters by number with the hosts that may be chosen, and listeners by number
abbrev pub DrainTimerPictures : Type 0
DrainTimerPictures = pictures_of deeds
    ≡ ([], [])
    ∷ (((1, (codes "10.0.0.1" ∷ [])) ∷ []), (2 ∷ []))
    ∷ (((1, (codes "10.0.0.1" ∷ [])) ∷ []), (3 ∷ []))
    ∷ []
