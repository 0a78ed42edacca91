-- A resource whose content is that of the newest generation makes none, and its version is kept.
use Rattle.std.specs.Prelude.{◌≡◌, List, [], ◌∷◌, codes}
use Rattle.ev_types.specs.declared.contents.Kind.TheVariants.{Cds, Lds}
use Rattle.ev_types.specs.declared.events.Answer.TheVariants.{Done, Moved, Replied}
use Rattle.ev_types.specs.declared.events.Verdict.TheVariants.{New, Same}
use Rattle.ev_model_rows.specs.Words.{Deed, answers_to, host_row, static_cluster, connect, disconnect, response, ask, ask_first, ack, settled}

-- the lines, from the second on
abbrev pub deeds : List Deed
deeds =
    connect
    ∷ response Cds (codes "1") (static_cluster (codes "a") (host_row (codes "1") ∷ []) ∷ []) []
    ∷ response Cds (codes "2") (record (static_cluster (codes "a") (host_row (codes "1") ∷ [])) { version = codes "v2" } ∷ []) []
    ∷ disconnect
    ∷ connect
    ∷ []

-- the answers, each with the number of its line
abbrev pub SameContentNewVersionAnswers : Type 0
SameContentNewVersionAnswers = answers_to deeds
    ≡ (2, Moved (ask_first ∷ []))
    ∷ (3, Replied (ack (codes "1") Cds ∷ ask Lds ∷ []) (New ∷ []))
    ∷ (4, Replied (ack (codes "2") Cds ∷ []) (Same ∷ []))
    ∷ (5, Done)
    ∷ (6, Moved (record ask_first { versions = (codes "a", codes "v2") ∷ [] } ∷ ask Lds ∷ []))
    ∷ (7, settled 0)
    ∷ []
