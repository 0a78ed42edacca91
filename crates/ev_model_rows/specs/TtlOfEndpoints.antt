-- At the end of their time to live a cluster's endpoints become none, and the cluster stays.
use Rattle.std.specs.Prelude.{◌≡◌, List, [], ◌∷◌, false, codes}
use Rattle.ev_types.specs.Items.{ItemParts}
use Rattle.ev_types.specs.declared.contents.Body.TheVariants.{Bad}
use Rattle.ev_types.specs.declared.contents.Kind.TheVariants.{Cds, Eds, Lds}
use Rattle.ev_types.specs.declared.events.Answer.TheVariants.{Moved, Replied, Version}
use Rattle.ev_types.specs.declared.events.Verdict.TheVariants.{New, Kept, Refused}
use Rattle.ev_model_rows.specs.Words.{Deed, answers_to, pictures_of, host_row, eds_cluster, hosts_of, with_ttl, connect, response, ttl_expired, publish, ask, ask_first, ack, nack, subscribe, settled}

-- endpoints with a time to live that isn't positive
abbrev pub refused_endpoints : ItemParts
refused_endpoints = record { name = codes "c"; version = codes "e1"; ttl = false; body = Bad 25 }

-- the lines, from the second on
abbrev pub deeds : List Deed
deeds =
    connect
    ∷ response Cds (codes "1") (eds_cluster (codes "c") (codes "c") ∷ []) []
    ∷ response Eds (codes "2") (with_ttl (hosts_of (codes "c") (host_row (codes "1") ∷ [])) ∷ []) []
    ∷ publish
    ∷ ttl_expired Eds (codes "c")
    ∷ publish
    ∷ response Eds (codes "3") (refused_endpoints ∷ []) []
    ∷ []

-- the answers, each with the number of its line
abbrev pub TtlOfEndpointsAnswers : Type 0
TtlOfEndpointsAnswers = answers_to deeds
    ≡ (2, Moved (ask_first ∷ []))
    ∷ (3, Replied (ack (codes "1") Cds ∷ subscribe Eds (codes "c" ∷ []) ∷ []) (New ∷ []))
    ∷ (4, Replied (ack (codes "2") Eds ∷ ask Lds ∷ []) (Kept ∷ []))
    ∷ (5, Version 1)
    ∷ (6, Moved [])
    ∷ (7, Version 2)
    ∷ (8, Replied (nack (codes "3") Eds (codes "c: V25") ∷ []) (Refused 25 ∷ []))
    ∷ (9, settled 2)
    ∷ []

-- the pictures: clusters by number with the hosts that may be chosen, and listeners by number
abbrev pub TtlOfEndpointsPictures : Type 0
TtlOfEndpointsPictures = pictures_of deeds
    ≡ ([], [])
    ∷ (((1, (codes "10.0.0.1" ∷ [])) ∷ []), [])
    ∷ (((1, []) ∷ []), [])
    ∷ []
