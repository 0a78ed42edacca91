-- Fetch timeouts of clusters, listeners and routes.
use Rattle.std.specs.Prelude.{◌≡◌, List, [], ◌∷◌, codes, Some, None}
use Rattle.ev_types.specs.declared.contents.Kind.TheVariants.{Cds, Lds, Rds}
use Rattle.ev_types.specs.declared.events.Answer.TheVariants.{Ignored, Moved, Replied}
use Rattle.ev_types.specs.declared.events.Verdict.TheVariants.{New}
use Rattle.ev_model_rows.specs.Words.{Deed, answers_to, rds_listener, connect, response, fetch_timeout, ask, ask_first, ack, subscribe, settled}

-- the lines, from the second on
abbrev pub deeds : List Deed
deeds =
    connect
    ∷ fetch_timeout Cds None
    ∷ response Lds (codes "1") (rds_listener (codes "in") 8080 (codes "r") ∷ []) []
    ∷ fetch_timeout Lds None
    ∷ fetch_timeout Rds (Some (codes "r"))
    ∷ fetch_timeout Rds (Some (codes "r"))
    ∷ response Rds (codes "2") [] (codes "r" ∷ [])
    ∷ []

-- the answers, each with the number of its line
abbrev pub TimeoutsOfListenersAnswers : Type 0
TimeoutsOfListenersAnswers = answers_to deeds
    ≡ (2, Moved (ask_first ∷ []))
    ∷ (3, Moved (ask Lds ∷ []))
    ∷ (4, Replied (ack (codes "1") Lds ∷ subscribe Rds (codes "r" ∷ []) ∷ []) (New ∷ []))
    ∷ (5, Ignored)
    ∷ (6, Moved [])
    ∷ (7, Ignored)
    ∷ (8, Replied (ack (codes "2") Rds ∷ []) [])
    ∷ (9, settled 0)
    ∷ []
