-- In format 2 a drained listener waits for its drain timeout; in format 1 it goes as soon as nothing holds it.
use Rattle.std.specs.Prelude.{◌≡◌, ℕ, List, [], ◌∷◌, ◌++◌, codes}
use Rattle.ev_types.specs.declared.contents.Kind.TheVariants.{Cds, Lds}
use Rattle.ev_types.specs.declared.events.Answer.{Answer}
use Rattle.ev_types.specs.declared.events.Answer.TheVariants.{Done, Ignored, Moved, Replied, Version, Reaped}
use Rattle.ev_types.specs.declared.events.Verdict.TheVariants.{New}
use Rattle.ev_types.specs.declared.journals.Format.TheVariants.{One, Two}
use Rattle.ev_model_rows.specs.Words.{Deed, script_of, answers_by, host_row, static_cluster, tcp_listener, connect, response, drain_timeout, publish, reap, accept, close, settle, ask, ask_first, ack, served, settled}

-- the lines, from the second on
abbrev pub drained_deeds : List Deed
drained_deeds =
    connect
    ∷ response Cds (codes "1") (static_cluster (codes "c") (host_row (codes "1") ∷ []) ∷ []) []
    ∷ response Lds (codes "2") (tcp_listener (codes "in") 8080 (codes "c") ∷ []) []
    ∷ publish
    ∷ settle
    ∷ accept 1
    ∷ response Lds (codes "3") (tcp_listener (codes "in") 8080 (codes "d") ∷ []) []
    ∷ publish
    ∷ settle
    ∷ close 1
    ∷ settle
    ∷ reap
    ∷ drain_timeout (codes "in")
    ∷ reap
    ∷ []

-- the answers up to the first reaping, which are the same in both formats
abbrev pub answers_before : List (ℕ × Answer)
answers_before =
    (2, Moved (ask_first ∷ []))
    ∷ (3, Replied (ack (codes "1") Cds ∷ ask Lds ∷ []) (New ∷ []))
    ∷ (4, Replied (ack (codes "2") Lds ∷ []) (New ∷ []))
    ∷ (5, Version 1)
    ∷ (6, settled 1)
    ∷ (8, Replied (ack (codes "3") Lds ∷ []) (New ∷ []))
    ∷ (9, Version 2)
    ∷ (7, served 2 1 (codes "1"))
    ∷ (10, settled 2)
    ∷ (11, Done)
    ∷ (12, settled 2)
    ∷ []

-- in format 2 the first reaping finds nothing, and the one after the drain timeout the old listener
abbrev pub DrainedListenersWaitAnswers : Type 0
DrainedListenersWaitAnswers = answers_by Two (script_of drained_deeds)
    ≡ answers_before ++ (13, Reaped []) ∷ (14, Done) ∷ (15, Reaped (2 ∷ [])) ∷ (16, settled 2) ∷ []

-- in format 1 the first reaping finds the old listener, and the drain timeout means nothing any more
abbrev pub AnswersOfFormat1 : Type 0
AnswersOfFormat1 = answers_by One (script_of drained_deeds)
    ≡ answers_before ++ (13, Reaped (2 ∷ [])) ∷ (14, Ignored) ∷ (15, Reaped []) ∷ (16, settled 2) ∷ []
