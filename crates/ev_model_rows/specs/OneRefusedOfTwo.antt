-- One resource of two is refused: the response is, and the good one is applied.
use Rattle.std.specs.Prelude.{◌≡◌, List, [], ◌∷◌, false, codes}
use Rattle.ev_types.specs.declared.contents.Kind.TheVariants.{Cds, Lds}
use Rattle.ev_types.specs.declared.events.Answer.TheVariants.{Moved, Replied}
use Rattle.ev_types.specs.declared.events.Verdict.TheVariants.{New, Refused}
use Rattle.ev_types.specs.Items.{ItemParts}
use Rattle.ev_types.specs.declared.contents.Body.TheVariants.{Bad}
use Rattle.ev_model_rows.specs.Words.{Deed, answers_to, host_row, static_cluster, connect, response, ask, ask_first, nack, settled}

-- a cluster of type EDS without its config
abbrev pub refused : ItemParts
refused = record { name = codes "b"; version = codes "v1"; ttl = false; body = Bad 8 }

-- the lines, from the second on
abbrev pub deeds : List Deed
deeds =
    connect
    ∷ response Cds (codes "7") (static_cluster (codes "a") (host_row (codes "1") ∷ []) ∷ refused ∷ []) []
    ∷ []

-- the answers, each with the number of its line
abbrev pub OneRefusedOfTwoAnswers : Type 0
OneRefusedOfTwoAnswers = answers_to deeds
    ≡ (2, Moved (ask_first ∷ []))
    ∷ (3, Replied (nack (codes "7") Cds (codes "b: V8") ∷ ask Lds ∷ []) (New ∷ Refused 8 ∷ []))
    ∷ (4, settled 0)
    ∷ []
