-- A heartbeat renews the version that is kept, one of another version is refused,
-- and the end of a time to live removes.
use Rattle.std.specs.Prelude.{◌≡◌, List, [], ◌∷◌, codes}
use Rattle.ev_types.specs.declared.contents.Kind.TheVariants.{Cds, Lds}
use Rattle.ev_types.specs.declared.events.Answer.TheVariants.{Ignored, Moved, Replied, Reaped}
use Rattle.ev_types.specs.declared.events.Verdict.TheVariants.{New, Renewed, Refused}
use Rattle.ev_model_rows.specs.Words.{Deed, answers_to, host_row, static_cluster, with_ttl, beat, connect, response, ttl_expired, reap, ask, ask_first, ack, nack, settled}

-- the lines, from the second on
abbrev pub deeds : List Deed
deeds =
    connect
    ∷ response Cds (codes "1") (with_ttl (static_cluster (codes "a") (host_row (codes "1") ∷ [])) ∷ []) []
    ∷ response Cds (codes "2") (beat (codes "a") (codes "v1") ∷ []) []
    ∷ response Cds (codes "3") (beat (codes "a") (codes "v2") ∷ []) []
    ∷ ttl_expired Cds (codes "a")
    ∷ ttl_expired Cds (codes "a")
    ∷ reap
    ∷ []

-- the answers, each with the number of its line
abbrev pub TtlAnswers : Type 0
TtlAnswers = answers_to deeds
    ≡ (2, Moved (ask_first ∷ []))
    ∷ (3, Replied (ack (codes "1") Cds ∷ ask Lds ∷ []) (New ∷ []))
    ∷ (4, Replied (ack (codes "2") Cds ∷ []) (Renewed ∷ []))
    ∷ (5, Replied (nack (codes "3") Cds (codes "a: V1") ∷ []) (Refused 1 ∷ []))
    ∷ (6, Moved [])
    ∷ (7, Ignored)
    ∷ (8, Reaped (1 ∷ []))
    ∷ (9, settled 0)
    ∷ []
