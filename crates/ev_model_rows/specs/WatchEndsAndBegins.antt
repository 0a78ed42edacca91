-- A watch that another cluster takes over keeps its value; one that ends and begins again waits anew.
use Rattle.std.specs.Prelude.{◌≡◌, List, [], ◌∷◌, codes}
use Rattle.ev_types.specs.declared.contents.Kind.TheVariants.{Cds, Eds, Lds}
use Rattle.ev_types.specs.declared.events.Answer.TheVariants.{Moved, Replied, Version, Unchanged}
use Rattle.ev_types.specs.declared.events.Verdict.TheVariants.{New, Kept}
use Rattle.ev_model_rows.specs.Words.{Deed, answers_to, pictures_of, host_row, eds_cluster, hosts_of, connect, response, publish, ask, ask_first, ack, subscribe, unsubscribe, settled}

-- the lines, from the second on
abbrev pub deeds : List Deed
deeds =
    connect
    ∷ response Cds (codes "1") (eds_cluster (codes "a") (codes "s") ∷ []) []
    ∷ response Eds (codes "2") (hosts_of (codes "s") (host_row (codes "1") ∷ []) ∷ []) []
    ∷ response Cds (codes "3") (eds_cluster (codes "b") (codes "s") ∷ []) (codes "a" ∷ [])
    ∷ publish
    ∷ response Cds (codes "4") [] (codes "b" ∷ [])
    ∷ publish
    ∷ response Cds (codes "5") (eds_cluster (codes "b") (codes "s") ∷ []) []
    ∷ publish
    ∷ []

-- the answers, each with the number of its line
abbrev pub WatchEndsAndBeginsAnswers : Type 0
WatchEndsAndBeginsAnswers = answers_to deeds
    ≡ (2, Moved (ask_first ∷ []))
    ∷ (3, Replied (ack (codes "1") Cds ∷ subscribe Eds (codes "s" ∷ []) ∷ []) (New ∷ []))
    ∷ (4, Replied (ack (codes "2") Eds ∷ ask Lds ∷ []) (Kept ∷ []))
    ∷ (5, Replied (ack (codes "3") Cds ∷ []) (New ∷ []))
    ∷ (6, Version 1)
    ∷ (7, Replied (ack (codes "4") Cds ∷ unsubscribe Eds (codes "s" ∷ []) ∷ []) [])
    ∷ (8, Version 2)
    ∷ (9, Replied (ack (codes "5") Cds ∷ subscribe Eds (codes "s" ∷ []) ∷ []) (New ∷ []))
    ∷ (10, Unchanged)
    ∷ (11, settled 2)
    ∷ []

-- the pictures: clusters by number with the hosts that may be chosen, and listeners by number
abbrev pub WatchEndsAndBeginsPictures : Type 0
WatchEndsAndBeginsPictures = pictures_of deeds
    ≡ ([], [])
    ∷ (((2, (codes "10.0.0.1" ∷ [])) ∷ []), [])
    ∷ ([], [])
    ∷ []
