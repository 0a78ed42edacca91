-- Two chains of a listener wait for one name, one within a limit and one without:
-- the name is asked for once, a timeout ends the one wait, and a notice of absence the other.
use Rattle.std.specs.Prelude.{◌≡◌, Bool, true, false, List, [], ◌∷◌, codes, Some, None}
use Rattle.ev_types.specs.declared.contents.Kind.TheVariants.{Cds, Lds, Rds}
use Rattle.ev_types.specs.declared.events.Answer.TheVariants.{Ignored, Moved, Replied, Version, Unchanged}
use Rattle.ev_types.specs.declared.ways.Way.TheVariants.{NoRoute}
use Rattle.ev_types.specs.declared.events.Verdict.TheVariants.{New}
use Rattle.ev_types.specs.declared.listeners.FilterChain.{FilterChain}
use Rattle.ev_types.specs.declared.listeners.Serve.{Serve}
use Rattle.ev_types.specs.declared.listeners.Serve.TheVariants.{Rds as by_rds}
use Rattle.ev_model_rows.specs.Words.{Deed, answers_to, listener_with, open_chain, chain_for, connect, response, fetch_timeout, publish, accept, settle, ask, ask_first, ack, subscribe, settled, on}

-- the routes of the name, within a limit or without
abbrev pub routes : Bool → Serve
routes limited = by_rds (codes "r") limited

-- two chains, for one server and for the others
abbrev pub chains : List FilterChain
chains = chain_for (codes "r") (routes true) ∷ open_chain (routes false) ∷ []

-- the lines, from the second on
abbrev pub deeds : List Deed
deeds =
    connect
    ∷ fetch_timeout Cds None
    ∷ response Lds (codes "3") (listener_with (codes "l") 8080 chains (Some (routes true)) ∷ []) []
    ∷ fetch_timeout Rds (Some (codes "r"))
    ∷ publish
    ∷ fetch_timeout Rds (Some (codes "r"))
    ∷ response Rds (codes "7") [] (codes "r" ∷ [])
    ∷ publish
    ∷ settle
    ∷ accept 1
    ∷ []

-- the answers, each with the number of its line
abbrev pub TwoMarksAnswers : Type 0
TwoMarksAnswers = answers_to deeds
    ≡ (2, Moved (ask_first ∷ []))
    ∷ (3, Moved (ask Lds ∷ []))
    ∷ (4, Replied (ack (codes "3") Lds ∷ subscribe Rds (codes "r" ∷ []) ∷ []) (New ∷ []))
    ∷ (5, Moved [])
    ∷ (6, Unchanged)
    ∷ (7, Ignored)
    ∷ (8, Replied (ack (codes "7") Rds ∷ []) [])
    ∷ (9, Version 1)
    ∷ (10, settled 1)
    ∷ (11, on 1 NoRoute)
    ∷ (12, settled 1)
    ∷ []
