-- A script has one replay, and it holds each actor's operations of the script.
use Rattle.std.specs.Prelude.{◌≡◌, List}
use Rattle.ev_types.specs.Scripts.{ScriptParts, IsScript}
use Rattle.ev_types.specs.declared.events.Actor.{Actor}
use Rattle.ev_types.specs.declared.events.Entry.{Entry}
use Rattle.ev_types.specs.declared.journals.Format.{Format}
use Rattle.ev_model.specs.Operations.{operations_of, entries_of, replay_order, IsReplay, IsRunOf}

-- the journal of a script's operations, one after another in the order of a replay, is a replay of the script
abbrev pub HasReplay : Type 0
HasReplay = (format : Format) (script : ScriptParts) → IsScript script → IsReplay format script (replay_order format script)

-- a journal that is a replay of the script is that one
abbrev pub HasOneReplay : Type 0
HasOneReplay = (format : Format) (script : ScriptParts) (journal : List Entry) → IsReplay format script journal → journal ≡ replay_order format script

-- a replay holds each actor's operations of the script, in order, and leaves none out
abbrev pub HoldsOperations : Type 0
HoldsOperations =
    (format : Format) (script : ScriptParts) (journal : List Entry)
    → IsScript script
    → IsReplay format script journal
    → (actor : Actor)
    → entries_of journal actor ≡ operations_of script actor

-- so it is one of the runs that a journal of the script may be
abbrev pub ReplayIsRunOf : Type 0
ReplayIsRunOf =
    (format : Format) (script : ScriptParts) (journal : List Entry) → IsScript script → IsReplay format script journal → IsRunOf format script journal
