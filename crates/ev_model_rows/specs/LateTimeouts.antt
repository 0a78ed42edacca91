-- A fetch timeout that came before an update doesn't count for it: the update waits for its own, which isn't ignored.
use Rattle.std.specs.Prelude.{◌≡◌, List, [], ◌∷◌, codes, Some, None}
use Rattle.ev_types.specs.declared.contents.Kind.TheVariants.{Cds, Eds, Lds}
use Rattle.ev_types.specs.declared.events.Answer.TheVariants.{Ignored, Moved, Replied, Version, Unchanged}
use Rattle.ev_types.specs.declared.ways.Way.TheVariants.{NoEndpoint}
use Rattle.ev_types.specs.declared.events.Verdict.TheVariants.{New, Kept}
use Rattle.ev_model_rows.specs.Words.{Deed, answers_to, host_row, fresh_cluster, hosts_of, tcp_listener, connect, response, fetch_timeout, publish, accept, settle, ask, ask_first, ack, subscribe, served, settled, on}

-- the lines, from the second on
abbrev pub deeds : List Deed
deeds =
    connect
    ∷ fetch_timeout Cds None
    ∷ response Lds (codes "3") (tcp_listener (codes "in") 8080 (codes "a") ∷ []) []
    ∷ response Cds (codes "4") (fresh_cluster (codes "a") (codes "old") ∷ []) []
    ∷ fetch_timeout Eds (Some (codes "a"))
    ∷ publish
    ∷ fetch_timeout Eds (Some (codes "a"))
    ∷ response Cds (codes "8") (fresh_cluster (codes "a") (codes "new") ∷ []) []
    ∷ publish
    ∷ fetch_timeout Eds (Some (codes "a"))
    ∷ publish
    ∷ settle
    ∷ accept 1
    ∷ settle
    ∷ response Eds (codes "15") (hosts_of (codes "a") (host_row (codes "1") ∷ []) ∷ []) []
    ∷ publish
    ∷ settle
    ∷ accept 2
    ∷ []

-- the answers, each with the number of its line
abbrev pub LateTimeoutsAnswers : Type 0
LateTimeoutsAnswers = answers_to deeds
    ≡ (2, Moved (ask_first ∷ []))
    ∷ (3, Moved (ask Lds ∷ []))
    ∷ (4, Replied (ack (codes "3") Lds ∷ []) (New ∷ []))
    ∷ (5, Replied (ack (codes "4") Cds ∷ subscribe Eds (codes "a" ∷ []) ∷ []) (New ∷ []))
    ∷ (6, Moved [])
    ∷ (7, Version 1)
    ∷ (8, Ignored)
    ∷ (9, Replied (ack (codes "8") Cds ∷ []) (New ∷ []))
    ∷ (10, Unchanged)
    ∷ (11, Moved [])
    ∷ (12, Version 2)
    ∷ (13, settled 2)
    ∷ (14, on 1 NoEndpoint)
    ∷ (15, settled 2)
    ∷ (16, Replied (ack (codes "15") Eds ∷ []) (Kept ∷ []))
    ∷ (17, Version 3)
    ∷ (18, settled 3)
    ∷ (19, served 1 3 (codes "1"))
    ∷ (20, settled 3)
    ∷ []
