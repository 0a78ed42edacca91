-- Two clusters wait for one name: a fetch timeout releases the one whose wait is limited, and a value,
-- a word of the control plane, the other.
use Rattle.std.specs.Prelude.{◌≡◌, List, [], ◌∷◌, codes, Some}
use Rattle.ev_types.specs.declared.contents.Kind.TheVariants.{Cds, Eds, Lds}
use Rattle.ev_types.specs.declared.events.Answer.TheVariants.{Ignored, Moved, Replied, Version}
use Rattle.ev_types.specs.declared.events.Verdict.TheVariants.{New, Kept}
use Rattle.ev_model_rows.specs.Words.{Deed, answers_to, pictures_of, eds_cluster, patient_cluster, hosts_of, connect, response, fetch_timeout, publish, ask, ask_first, ack, subscribe, settled}

-- the lines, from the second on
abbrev pub deeds : List Deed
deeds =
    connect
    ∷ response Cds (codes "1") (eds_cluster (codes "p") (codes "s") ∷ patient_cluster (codes "q") (codes "s") ∷ []) []
    ∷ fetch_timeout Eds (Some (codes "s"))
    ∷ publish
    ∷ fetch_timeout Eds (Some (codes "s"))
    ∷ response Eds (codes "2") (hosts_of (codes "s") [] ∷ []) []
    ∷ publish
    ∷ []

-- the answers, each with the number of its line
abbrev pub TwoTimeoutsAnswers : Type 0
TwoTimeoutsAnswers = answers_to deeds
    ≡ (2, Moved (ask_first ∷ []))
    ∷ (3, Replied (ack (codes "1") Cds ∷ subscribe Eds (codes "s" ∷ []) ∷ []) (New ∷ New ∷ []))
    ∷ (4, Moved [])
    ∷ (5, Version 1)
    ∷ (6, Ignored)
    ∷ (7, Replied (ack (codes "2") Eds ∷ ask Lds ∷ []) (Kept ∷ []))
    ∷ (8, Version 2)
    ∷ (9, settled 2)
    ∷ []

-- the pictures: clusters by number with the hosts that may be chosen, and listeners by number
abbrev pub TwoTimeoutsPictures : Type 0
TwoTimeoutsPictures = pictures_of deeds
    ≡ ([], [])
    ∷ (((1, []) ∷ []), [])
    ∷ (((1, []) ∷ (2, []) ∷ []), [])
    ∷ []
