-- A stream that is lost and opened again: nothing else changes, and what is held is named at the connect.
use Rattle.std.specs.Prelude.{◌≡◌, List, [], ◌∷◌, codes}
use Rattle.ev_types.specs.declared.contents.Kind.TheVariants.{Cds, Eds, Lds}
use Rattle.ev_types.specs.declared.events.Answer.TheVariants.{Ignored, Done, Moved, Replied}
use Rattle.ev_types.specs.declared.events.Verdict.TheVariants.{New, Kept}
use Rattle.ev_model_rows.specs.Words.{Deed, answers_to, host_row, eds_cluster, hosts_of, connect, disconnect, response, ask, ask_first, ack, subscribe, settled}

-- the lines, from the second on
abbrev pub deeds : List Deed
deeds =
    connect
    ∷ response Cds (codes "1") (eds_cluster (codes "c") (codes "c") ∷ []) []
    ∷ response Eds (codes "2") (hosts_of (codes "c") (host_row (codes "1") ∷ []) ∷ []) []
    ∷ disconnect
    ∷ response Cds (codes "3") (eds_cluster (codes "d") (codes "d") ∷ []) []
    ∷ connect
    ∷ connect
    ∷ []

-- the answers, each with the number of its line
abbrev pub LostStreamAnswers : Type 0
LostStreamAnswers = answers_to deeds
    ≡ (2, Moved (ask_first ∷ []))
    ∷ (3, Replied (ack (codes "1") Cds ∷ subscribe Eds (codes "c" ∷ []) ∷ []) (New ∷ []))
    ∷ (4, Replied (ack (codes "2") Eds ∷ ask Lds ∷ []) (Kept ∷ []))
    ∷ (5, Done)
    ∷ (6, Ignored)
    ∷ (7, Moved (record ask_first { versions = (codes "c", codes "v1") ∷ [] } ∷ record (subscribe Eds (codes "c" ∷ [])) { versions = (codes "c", codes "e1") ∷ [] } ∷ ask Lds ∷ []))
    ∷ (8, Ignored)
    ∷ (9, settled 0)
    ∷ []
