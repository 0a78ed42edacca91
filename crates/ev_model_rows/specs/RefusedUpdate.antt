-- An update that is refused takes nothing away.
use Rattle.std.specs.Prelude.{◌≡◌, List, [], ◌∷◌, codes}
use Rattle.ev_types.specs.declared.contents.Kind.TheVariants.{Cds, Lds}
use Rattle.ev_types.specs.declared.events.Answer.TheVariants.{Moved, Replied, Version, Unchanged}
use Rattle.ev_types.specs.declared.events.Verdict.TheVariants.{New, Refused}
use Rattle.ev_model_rows.specs.Words.{Deed, answers_to, pictures_of, host_row, static_cluster, connect, response, publish, ask, ask_first, ack, nack, settled}

-- the lines, from the second on
abbrev pub deeds : List Deed
deeds =
    connect
    ∷ response Cds (codes "1") (static_cluster (codes "a") (host_row (codes "1") ∷ []) ∷ []) []
    ∷ publish
    ∷ response Cds (codes "2") (static_cluster (codes "a") (host_row (codes "2") ∷ []) ∷ static_cluster (codes "a") (host_row (codes "3") ∷ []) ∷ []) []
    ∷ publish
    ∷ []

-- the answers, each with the number of its line
abbrev pub RefusedUpdateAnswers : Type 0
RefusedUpdateAnswers = answers_to deeds
    ≡ (2, Moved (ask_first ∷ []))
    ∷ (3, Replied (ack (codes "1") Cds ∷ ask Lds ∷ []) (New ∷ []))
    ∷ (4, Version 1)
    ∷ (5, Replied (nack (codes "2") Cds (codes "a: V4; a: V4") ∷ []) (Refused 4 ∷ Refused 4 ∷ []))
    ∷ (6, Unchanged)
    ∷ (7, settled 1)
    ∷ []

-- the pictures: clusters by number with the hosts that may be chosen, and listeners by number
abbrev pub RefusedUpdatePictures : Type 0
RefusedUpdatePictures = pictures_of deeds
    ≡ ([], [])
    ∷ (((1, (codes "10.0.0.1" ∷ [])) ∷ []), [])
    ∷ []
