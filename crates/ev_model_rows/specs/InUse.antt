-- A connection number is in use until it is closed.
use Rattle.std.specs.Prelude.{◌≡◌, List, [], ◌∷◌, codes}
use Rattle.ev_types.specs.declared.contents.Kind.TheVariants.{Cds, Lds}
use Rattle.ev_types.specs.declared.events.Answer.TheVariants.{Done, Moved, Replied, Version, InUse}
use Rattle.ev_types.specs.declared.events.Verdict.TheVariants.{New}
use Rattle.ev_model_rows.specs.Words.{Deed, answers_to, host_row, static_cluster, tcp_listener, connect, response, publish, accept, close, settle, ask, ask_first, ack, served, settled}

-- the lines, from the second on
abbrev pub deeds : List Deed
deeds =
    connect
    ∷ response Cds (codes "1") (static_cluster (codes "c") (host_row (codes "1") ∷ []) ∷ []) []
    ∷ response Lds (codes "2") (tcp_listener (codes "in") 8080 (codes "c") ∷ []) []
    ∷ publish
    ∷ settle
    ∷ accept 5
    ∷ accept 5
    ∷ close 5
    ∷ accept 5
    ∷ []

-- the answers, each with the number of its line
abbrev pub InUseAnswers : Type 0
InUseAnswers = answers_to deeds
    ≡ (2, Moved (ask_first ∷ []))
    ∷ (3, Replied (ack (codes "1") Cds ∷ ask Lds ∷ []) (New ∷ []))
    ∷ (4, Replied (ack (codes "2") Lds ∷ []) (New ∷ []))
    ∷ (5, Version 1)
    ∷ (6, settled 1)
    ∷ (7, served 2 1 (codes "1"))
    ∷ (8, InUse)
    ∷ (9, Done)
    ∷ (10, served 2 1 (codes "1"))
    ∷ (11, settled 1)
    ∷ []
