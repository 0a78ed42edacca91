-- A pick takes a cluster by the weights of the target, and its quotient a host by the weights of the cluster.
use Rattle.std.specs.Prelude.{◌≡◌, List, [], ◌∷◌, codes}
use Rattle.ev_types.specs.declared.contents.Kind.TheVariants.{Cds, Lds}
use Rattle.ev_types.specs.declared.events.Answer.TheVariants.{Moved, Replied, Version}
use Rattle.ev_types.specs.declared.events.Verdict.TheVariants.{New}
use Rattle.ev_types.specs.declared.listeners.Serve.TheVariants.{Tcp}
use Rattle.ev_types.specs.declared.routes.Target.{Target}
use Rattle.ev_types.specs.declared.routes.Target.TheVariants.{Weighted}
use Rattle.ev_model_rows.specs.Words.{Deed, answers_to, pictures_of, host_row, static_cluster, listener_at, connect, response, publish, accept_with, settle, ask, ask_first, ack, served, settled}

-- a third goes to x, two thirds go to y
abbrev pub target : Target
target = Weighted (record { name = codes "x"; weight = 1 } ∷ record { name = codes "y"; weight = 2 } ∷ [])

-- the lines, from the second on
abbrev pub deeds : List Deed
deeds =
    connect
    ∷ response Cds (codes "1") (static_cluster (codes "x") (host_row (codes "1") ∷ []) ∷ static_cluster (codes "y") (host_row (codes "2") ∷ record (host_row (codes "3")) { weight = 2 } ∷ []) ∷ []) []
    ∷ response Lds (codes "2") (listener_at (codes "in") 8080 (Tcp target) ∷ []) []
    ∷ publish
    ∷ settle
    ∷ accept_with 1 [] (codes "/") 0
    ∷ accept_with 2 [] (codes "/") 1
    ∷ accept_with 3 [] (codes "/") 7
    ∷ []

-- the answers, each with the number of its line
abbrev pub WeightsAnswers : Type 0
WeightsAnswers = answers_to deeds
    ≡ (2, Moved (ask_first ∷ []))
    ∷ (3, Replied (ack (codes "1") Cds ∷ ask Lds ∷ []) (New ∷ New ∷ []))
    ∷ (4, Replied (ack (codes "2") Lds ∷ []) (New ∷ []))
    ∷ (5, Version 1)
    ∷ (6, settled 1)
    ∷ (7, served 3 1 (codes "1"))
    ∷ (8, served 3 2 (codes "2"))
    ∷ (9, served 3 2 (codes "3"))
    ∷ (10, settled 1)
    ∷ []

-- the pictures: clusters by number with the hosts that may be chosen, and listeners by number
abbrev pub WeightsPictures : Type 0
WeightsPictures = pictures_of deeds
    ≡ ([], [])
    ∷ (((1, (codes "10.0.0.1" ∷ [])) ∷ (2, (codes "10.0.0.2" ∷ codes "10.0.0.3" ∷ [])) ∷ []), (3 ∷ []))
    ∷ []
