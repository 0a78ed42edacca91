-- A batch comes before the settle that ends it, and what it opened keeps its generation until it is closed.
use Rattle.std.specs.Prelude.{◌≡◌, List, [], ◌∷◌, codes}
use Rattle.ev_types.specs.declared.contents.Kind.TheVariants.{Cds, Lds}
use Rattle.ev_types.specs.declared.events.Answer.TheVariants.{Done, Moved, Replied, Version, Reaped}
use Rattle.ev_types.specs.declared.events.Verdict.TheVariants.{New}
use Rattle.ev_model_rows.specs.Words.{Deed, answers_to, pictures_of, host_row, static_cluster, tcp_listener, connect, response, publish, reap, accept, close, settle, ask, ask_first, ack, served, settled}

-- the lines, from the second on
abbrev pub deeds : List Deed
deeds =
    connect
    ∷ response Cds (codes "1") (static_cluster (codes "c") (host_row (codes "1") ∷ []) ∷ []) []
    ∷ response Lds (codes "2") (tcp_listener (codes "in") 8080 (codes "c") ∷ []) []
    ∷ publish
    ∷ settle
    ∷ accept 1
    ∷ response Cds (codes "3") (static_cluster (codes "c") (host_row (codes "2") ∷ []) ∷ []) []
    ∷ publish
    ∷ reap
    ∷ settle
    ∷ reap
    ∷ close 1
    ∷ settle
    ∷ reap
    ∷ []

-- the answers, each with the number of its line
abbrev pub LateBatchAnswers : Type 0
LateBatchAnswers = answers_to deeds
    ≡ (2, Moved (ask_first ∷ []))
    ∷ (3, Replied (ack (codes "1") Cds ∷ ask Lds ∷ []) (New ∷ []))
    ∷ (4, Replied (ack (codes "2") Lds ∷ []) (New ∷ []))
    ∷ (5, Version 1)
    ∷ (6, settled 1)
    ∷ (8, Replied (ack (codes "3") Cds ∷ []) (New ∷ []))
    ∷ (9, Version 2)
    ∷ (10, Reaped [])
    ∷ (7, served 2 1 (codes "1"))
    ∷ (11, settled 2)
    ∷ (12, Reaped [])
    ∷ (13, Done)
    ∷ (14, settled 2)
    ∷ (15, Reaped (1 ∷ []))
    ∷ (16, settled 2)
    ∷ []

-- the pictures: clusters by number with the hosts that may be chosen, and listeners by number
abbrev pub LateBatchPictures : Type 0
LateBatchPictures = pictures_of deeds
    ≡ ([], [])
    ∷ (((1, (codes "10.0.0.1" ∷ [])) ∷ []), (2 ∷ []))
    ∷ (((3, (codes "10.0.0.2" ∷ [])) ∷ []), (2 ∷ []))
    ∷ []
