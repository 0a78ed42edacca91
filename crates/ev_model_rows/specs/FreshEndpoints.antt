-- An updated cluster waits until its endpoints are sent anew, though they are known;
-- the same ones wake it, and the end of a time to live doesn't. While it waits the generation before it serves.
use Rattle.std.specs.Prelude.{◌≡◌, List, [], ◌∷◌, codes, None}
use Rattle.ev_types.specs.declared.contents.Kind.TheVariants.{Cds, Eds, Lds}
use Rattle.ev_types.specs.declared.events.Answer.TheVariants.{Moved, Replied, Version, Unchanged}
use Rattle.ev_types.specs.declared.events.Verdict.TheVariants.{New, Kept}
use Rattle.ev_model_rows.specs.Words.{Deed, answers_to, pictures_of, host_row, fresh_cluster, hosts_of, with_ttl, tcp_listener, connect, response, fetch_timeout, ttl_expired, publish, accept, settle, ask, ask_first, ack, subscribe, served, settled}

-- the lines, from the second on
abbrev pub deeds : List Deed
deeds =
    connect
    ∷ fetch_timeout Cds None
    ∷ response Lds (codes "3") (tcp_listener (codes "in") 8080 (codes "a") ∷ []) []
    ∷ response Cds (codes "4") (fresh_cluster (codes "a") (codes "old") ∷ []) []
    ∷ response Eds (codes "5") (hosts_of (codes "a") (host_row (codes "1") ∷ []) ∷ []) []
    ∷ publish
    ∷ settle
    ∷ response Cds (codes "8") (fresh_cluster (codes "a") (codes "new") ∷ []) []
    ∷ publish
    ∷ accept 1
    ∷ settle
    ∷ response Eds (codes "12") (hosts_of (codes "a") (host_row (codes "1") ∷ []) ∷ []) []
    ∷ publish
    ∷ settle
    ∷ accept 2
    ∷ []

-- the answers, each with the number of its line
abbrev pub FreshEndpointsAnswers : Type 0
FreshEndpointsAnswers = answers_to deeds
    ≡ (2, Moved (ask_first ∷ []))
    ∷ (3, Moved (ask Lds ∷ []))
    ∷ (4, Replied (ack (codes "3") Lds ∷ []) (New ∷ []))
    ∷ (5, Replied (ack (codes "4") Cds ∷ subscribe Eds (codes "a" ∷ []) ∷ []) (New ∷ []))
    ∷ (6, Replied (ack (codes "5") Eds ∷ []) (Kept ∷ []))
    ∷ (7, Version 1)
    ∷ (8, settled 1)
    ∷ (9, Replied (ack (codes "8") Cds ∷ []) (New ∷ []))
    ∷ (10, Unchanged)
    ∷ (11, served 1 2 (codes "1"))
    ∷ (12, settled 1)
    ∷ (13, Replied (ack (codes "12") Eds ∷ []) (Kept ∷ []))
    ∷ (14, Version 2)
    ∷ (15, settled 2)
    ∷ (16, served 1 3 (codes "1"))
    ∷ (17, settled 2)
    ∷ []

-- the lines of a cluster whose endpoints have a time to live that ends while its update waits
abbrev pub ended : List Deed
ended =
    connect
    ∷ fetch_timeout Cds None
    ∷ response Cds (codes "3") (fresh_cluster (codes "a") (codes "old") ∷ []) []
    ∷ response Eds (codes "4") (with_ttl (hosts_of (codes "a") (host_row (codes "1") ∷ [])) ∷ []) []
    ∷ publish
    ∷ response Cds (codes "6") (fresh_cluster (codes "a") (codes "new") ∷ []) []
    ∷ ttl_expired Eds (codes "a")
    ∷ publish
    ∷ response Eds (codes "9") (hosts_of (codes "a") (host_row (codes "2") ∷ []) ∷ []) []
    ∷ publish
    ∷ []

-- their pictures: clusters by number with the hosts that may be chosen;
-- the end takes the hosts of the generation that serves
abbrev pub FreshEndpointsPictures : Type 0
FreshEndpointsPictures = pictures_of ended
    ≡ ([], [])
    ∷ (((1, (codes "10.0.0.1" ∷ [])) ∷ []), [])
    ∷ (((1, []) ∷ []), [])
    ∷ (((2, (codes "10.0.0.2" ∷ [])) ∷ []), [])
    ∷ []
