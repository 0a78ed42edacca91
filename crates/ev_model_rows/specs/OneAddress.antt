-- A live listener owns its address; once it is removed, another may have it in the same response.
use Rattle.std.specs.Prelude.{◌≡◌, List, [], ◌∷◌, codes, None}
use Rattle.ev_types.specs.declared.contents.Kind.TheVariants.{Cds, Lds}
use Rattle.ev_types.specs.declared.events.Answer.TheVariants.{Moved, Replied}
use Rattle.ev_types.specs.declared.events.Verdict.TheVariants.{New, Refused}
use Rattle.ev_model_rows.specs.Words.{Deed, answers_to, pictures_of, tcp_listener, connect, response, fetch_timeout, ask, ask_first, ack, nack, settled}

-- the lines, from the second on
abbrev pub deeds : List Deed
deeds =
    connect
    ∷ fetch_timeout Cds None
    ∷ response Lds (codes "1") (tcp_listener (codes "a") 80 (codes "c") ∷ []) []
    ∷ response Lds (codes "2") (tcp_listener (codes "b") 80 (codes "c") ∷ []) []
    ∷ response Lds (codes "3") (tcp_listener (codes "b") 80 (codes "c") ∷ []) (codes "a" ∷ [])
    ∷ []

-- the answers, each with the number of its line
abbrev pub OneAddressAnswers : Type 0
OneAddressAnswers = answers_to deeds
    ≡ (2, Moved (ask_first ∷ []))
    ∷ (3, Moved (ask Lds ∷ []))
    ∷ (4, Replied (ack (codes "1") Lds ∷ []) (New ∷ []))
    ∷ (5, Replied (nack (codes "2") Lds (codes "b: V15") ∷ []) (Refused 15 ∷ []))
    ∷ (6, Replied (ack (codes "3") Lds ∷ []) (New ∷ []))
    ∷ (7, settled 0)
    ∷ []

-- the pictures: clusters by number with the hosts that may be chosen, and listeners by number
abbrev pub OneAddressPictures : Type 0
OneAddressPictures = pictures_of deeds
    ≡ ([], [])
    ∷ []
