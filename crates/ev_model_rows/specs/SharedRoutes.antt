-- Listeners share what was received for a name of routes: an update and another user of a known name serve at once.
use Rattle.std.specs.Prelude.{◌≡◌, List, [], ◌∷◌, codes, true, false, None}
use Rattle.ev_types.specs.Items.{ItemParts}
use Rattle.ev_types.specs.declared.contents.Kind.TheVariants.{Cds, Lds, Rds}
use Rattle.ev_types.specs.declared.events.Answer.TheVariants.{Moved, Replied, Version}
use Rattle.ev_types.specs.declared.ways.Way.TheVariants.{Local}
use Rattle.ev_types.specs.declared.events.Verdict.TheVariants.{New, Kept}
use Rattle.ev_types.specs.declared.listeners.Serve.TheVariants.{Rds as by_rds}
use Rattle.ev_model_rows.specs.Words.{Deed, answers_to, listener_by, listener_with, open_chain, rds_listener, routes_of, answering_all, connect, response, fetch_timeout, publish, accept_of, asked, asked_at, settle, ask, ask_first, ack, subscribe, settled, on}

-- the first listener with another body
abbrev pub changed : ItemParts
changed =
    listener_by (codes "l") (record { address = codes "10.1.0.1"; port = 8080 }) false
    (open_chain (by_rds (codes "r") true) ∷ []) None (codes "new")

-- the lines, from the second on
abbrev pub deeds : List Deed
deeds =
    connect
    ∷ fetch_timeout Cds None
    ∷ response Lds (codes "3") (rds_listener (codes "l") 8080 (codes "r") ∷ []) []
    ∷ response Rds (codes "4") (routes_of (codes "r") (answering_all 200) ∷ []) []
    ∷ publish
    ∷ response Lds (codes "6") (changed ∷ listener_with (codes "m") 8081 (open_chain (by_rds (codes "r") false) ∷ []) None ∷ []) []
    ∷ publish
    ∷ settle
    ∷ accept_of (asked 9)
    ∷ accept_of (asked_at 10 8081)
    ∷ []

-- the answers, each with the number of its line
abbrev pub SharedRoutesAnswers : Type 0
SharedRoutesAnswers = answers_to deeds
    ≡ (2, Moved (ask_first ∷ []))
    ∷ (3, Moved (ask Lds ∷ []))
    ∷ (4, Replied (ack (codes "3") Lds ∷ subscribe Rds (codes "r" ∷ []) ∷ []) (New ∷ []))
    ∷ (5, Replied (ack (codes "4") Rds ∷ []) (Kept ∷ []))
    ∷ (6, Version 1)
    ∷ (7, Replied (ack (codes "6") Lds ∷ []) (New ∷ New ∷ []))
    ∷ (8, Version 2)
    ∷ (9, settled 2)
    ∷ (10, on 2 (Local 200))
    ∷ (11, on 3 (Local 200))
    ∷ (12, settled 2)
    ∷ []
