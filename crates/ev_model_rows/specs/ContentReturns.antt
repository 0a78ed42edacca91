-- A content that returns: an update that never warmed is dropped,
-- and the generation that served goes once nothing holds it.
use Rattle.std.specs.Prelude.{◌≡◌, List, [], ◌∷◌, codes}
use Rattle.ev_types.specs.declared.contents.Kind.TheVariants.{Cds, Eds, Lds}
use Rattle.ev_types.specs.declared.events.Answer.TheVariants.{Moved, Replied, Version, Reaped}
use Rattle.ev_types.specs.declared.events.Verdict.TheVariants.{New}
use Rattle.ev_model_rows.specs.Words.{Deed, answers_to, pictures_of, host_row, static_cluster, eds_cluster, connect, response, publish, reap, settle, ask, ask_first, ack, subscribe, unsubscribe, settled}

-- the lines, from the second on
abbrev pub deeds : List Deed
deeds =
    connect
    ∷ response Cds (codes "1") (static_cluster (codes "a") (host_row (codes "1") ∷ []) ∷ []) []
    ∷ publish
    ∷ settle
    ∷ response Cds (codes "2") (eds_cluster (codes "a") (codes "a") ∷ []) []
    ∷ response Cds (codes "3") (static_cluster (codes "a") (host_row (codes "1") ∷ []) ∷ []) []
    ∷ reap
    ∷ publish
    ∷ reap
    ∷ settle
    ∷ reap
    ∷ []

-- the answers, each with the number of its line
abbrev pub ContentReturnsAnswers : Type 0
ContentReturnsAnswers = answers_to deeds
    ≡ (2, Moved (ask_first ∷ []))
    ∷ (3, Replied (ack (codes "1") Cds ∷ ask Lds ∷ []) (New ∷ []))
    ∷ (4, Version 1)
    ∷ (5, settled 1)
    ∷ (6, Replied (ack (codes "2") Cds ∷ subscribe Eds (codes "a" ∷ []) ∷ []) (New ∷ []))
    ∷ (7, Replied (ack (codes "3") Cds ∷ unsubscribe Eds (codes "a" ∷ []) ∷ []) (New ∷ []))
    ∷ (8, Reaped (2 ∷ []))
    ∷ (9, Version 2)
    ∷ (10, Reaped [])
    ∷ (11, settled 2)
    ∷ (12, Reaped (1 ∷ []))
    ∷ (13, settled 2)
    ∷ []

-- the pictures: clusters by number with the hosts that may be chosen, and listeners by number
abbrev pub ContentReturnsPictures : Type 0
ContentReturnsPictures = pictures_of deeds
    ≡ ([], [])
    ∷ (((1, (codes "10.0.0.1" ∷ [])) ∷ []), [])
    ∷ (((3, (codes "10.0.0.1" ∷ [])) ∷ []), [])
    ∷ []
