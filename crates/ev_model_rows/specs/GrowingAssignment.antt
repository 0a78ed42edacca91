-- An assignment grows while its checked cluster warms: it is warm once each host of the assignment then has a result.
use Rattle.std.specs.Prelude.{◌≡◌, List, [], ◌∷◌, true, false, codes}
use Rattle.ev_types.specs.declared.contents.Kind.TheVariants.{Cds, Eds, Lds}
use Rattle.ev_types.specs.declared.events.Answer.TheVariants.{Ignored, Moved, Replied, Version, Unchanged}
use Rattle.ev_types.specs.declared.events.Verdict.TheVariants.{New, Kept}
use Rattle.ev_model_rows.specs.Words.{Deed, answers_to, pictures_of, host_row, checked_cluster, hosts_of, connect, response, health, publish, ask, ask_first, ack, subscribe, settled}

-- the lines, from the second on
abbrev pub deeds : List Deed
deeds =
    connect
    ∷ response Cds (codes "1") (checked_cluster (codes "api") ∷ []) []
    ∷ response Eds (codes "2") (hosts_of (codes "api") (host_row (codes "1") ∷ []) ∷ []) []
    ∷ response Eds (codes "3") (hosts_of (codes "api") (host_row (codes "1") ∷ host_row (codes "2") ∷ []) ∷ []) []
    ∷ health (codes "api") (codes "1") true
    ∷ publish
    ∷ health (codes "api") (codes "2") false
    ∷ publish
    ∷ health (codes "api") (codes "9") true
    ∷ []

-- the answers, each with the number of its line
abbrev pub GrowingAssignmentAnswers : Type 0
GrowingAssignmentAnswers = answers_to deeds
    ≡ (2, Moved (ask_first ∷ []))
    ∷ (3, Replied (ack (codes "1") Cds ∷ subscribe Eds (codes "api" ∷ []) ∷ []) (New ∷ []))
    ∷ (4, Replied (ack (codes "2") Eds ∷ []) (Kept ∷ []))
    ∷ (5, Replied (ack (codes "3") Eds ∷ []) (Kept ∷ []))
    ∷ (6, Moved [])
    ∷ (7, Unchanged)
    ∷ (8, Moved (ask Lds ∷ []))
    ∷ (9, Version 1)
    ∷ (10, Ignored)
    ∷ (11, settled 1)
    ∷ []

-- the pictures: clusters by number with the hosts that may be chosen, and listeners by number
abbrev pub GrowingAssignmentPictures : Type 0
GrowingAssignmentPictures = pictures_of deeds
    ≡ ([], [])
    ∷ (((1, (codes "10.0.0.1" ∷ [])) ∷ []), [])
    ∷ []
