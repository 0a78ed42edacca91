-- A cluster without hosts is warm, and has no endpoint for a connection.
use Rattle.std.specs.Prelude.{◌≡◌, List, [], ◌∷◌, codes}
use Rattle.ev_types.specs.declared.contents.Kind.TheVariants.{Cds, Eds, Lds}
use Rattle.ev_types.specs.declared.events.Answer.TheVariants.{Moved, Replied, Version}
use Rattle.ev_types.specs.declared.ways.Way.TheVariants.{NoEndpoint}
use Rattle.ev_types.specs.declared.events.Verdict.TheVariants.{New, Kept}
use Rattle.ev_model_rows.specs.Words.{Deed, answers_to, pictures_of, eds_cluster, hosts_of, tcp_listener, connect, response, publish, accept, settle, ask, ask_first, ack, subscribe, settled, on}

-- the lines, from the second on
abbrev pub deeds : List Deed
deeds =
    connect
    ∷ response Cds (codes "1") (eds_cluster (codes "c") (codes "c") ∷ []) []
    ∷ response Eds (codes "2") (hosts_of (codes "c") [] ∷ []) []
    ∷ response Lds (codes "3") (tcp_listener (codes "in") 8080 (codes "c") ∷ []) []
    ∷ publish
    ∷ settle
    ∷ accept 1
    ∷ []

-- the answers, each with the number of its line
abbrev pub NoHostsAnswers : Type 0
NoHostsAnswers = answers_to deeds
    ≡ (2, Moved (ask_first ∷ []))
    ∷ (3, Replied (ack (codes "1") Cds ∷ subscribe Eds (codes "c" ∷ []) ∷ []) (New ∷ []))
    ∷ (4, Replied (ack (codes "2") Eds ∷ ask Lds ∷ []) (Kept ∷ []))
    ∷ (5, Replied (ack (codes "3") Lds ∷ []) (New ∷ []))
    ∷ (6, Version 1)
    ∷ (7, settled 1)
    ∷ (8, on 2 NoEndpoint)
    ∷ (9, settled 1)
    ∷ []

-- the pictures: clusters by number with the hosts that may be chosen, and listeners by number
abbrev pub NoHostsPictures : Type 0
NoHostsPictures = pictures_of deeds
    ≡ ([], [])
    ∷ (((1, []) ∷ []), (2 ∷ []))
    ∷ []
