-- With `auto` each line of the stream, the health checker and the timers is followed by a publication and a reaping.
use Rattle.std.specs.Prelude.{◌≡◌, List, [], ◌∷◌, true, codes, None}
use Rattle.ev_types.specs.declared.contents.Kind.TheVariants.{Cds, Lds}
use Rattle.ev_types.specs.declared.events.Answer.TheVariants.{Moved, Replied, Version, Unchanged, Reaped}
use Rattle.ev_types.specs.declared.events.Verdict.TheVariants.{New}
use Rattle.ev_types.specs.Scripts.{ScriptParts}
use Rattle.ev_model_rows.specs.Words.{Deed, script_with, answers_in, pictures_in, host_row, static_cluster, connect, response, fetch_timeout, settle, ask, ask_first, ack, settled}

-- the lines, from the second on
abbrev pub deeds : List Deed
deeds =
    connect
    ∷ response Cds (codes "1") (static_cluster (codes "a") (host_row (codes "1") ∷ []) ∷ []) []
    ∷ settle
    ∷ response Cds (codes "2") [] (codes "a" ∷ [])
    ∷ settle
    ∷ fetch_timeout Lds None
    ∷ []

-- the script, with `auto`
abbrev pub script : ScriptParts
script = script_with 1 true (codes "warmgate") deeds

-- the answers, each with the number of its line
abbrev pub AutomaticAnswers : Type 0
AutomaticAnswers = answers_in script
    ≡ (2, Moved (ask_first ∷ []))
    ∷ (2, Unchanged)
    ∷ (2, Reaped [])
    ∷ (3, Replied (ack (codes "1") Cds ∷ ask Lds ∷ []) (New ∷ []))
    ∷ (3, Version 1)
    ∷ (3, Reaped [])
    ∷ (4, settled 1)
    ∷ (5, Replied (ack (codes "2") Cds ∷ []) [])
    ∷ (5, Version 2)
    ∷ (5, Reaped [])
    ∷ (6, settled 2)
    ∷ (7, Moved [])
    ∷ (7, Unchanged)
    ∷ (7, Reaped (1 ∷ []))
    ∷ (8, settled 2)
    ∷ []

-- the pictures: clusters by number with the hosts that may be chosen, and listeners by number
abbrev pub AutomaticPictures : Type 0
AutomaticPictures = pictures_in script
    ≡ ([], [])
    ∷ (((1, (codes "10.0.0.1" ∷ [])) ∷ []), [])
    ∷ ([], [])
    ∷ []
