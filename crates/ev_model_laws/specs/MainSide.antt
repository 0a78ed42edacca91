-- What the main side does in a run. This project's own.
use Rattle.std.specs.Prelude.{ℕ, ◌≡◌, Bool, true, false, List, filter_map, Option, Some, None, unwrap_or}
use Rattle.std.specs.List.{last_or}
use Rattle.ev_types.specs.Events.{IsMainSide}
use Rattle.ev_types.specs.Scripts.{IsScript, ScriptParts}
use Rattle.ev_types.specs.declared.events.Actor.{Actor}
use Rattle.ev_types.specs.declared.events.Entry.{Entry}
use Rattle.ev_types.specs.declared.events.Event.{Event}
use Rattle.ev_types.specs.declared.events.Event.TheVariants.{Connect, Disconnect}
use Rattle.ev_types.specs.declared.journals.Format.{Format}
use Rattle.ev_model.specs.World.{opening}
use Rattle.ev_model.specs.Runs.{world_after}
use Rattle.ev_model.specs.Operations.{IsRunOf, entries_of, operations_of}

-- a run of a script holds exactly the operations of each actor of the main side, in order
abbrev pub MainSideHolds : Type 0
MainSideHolds =
    (format : Format) (script : ScriptParts) (journal : List Entry) (actor : Actor)
    → IsScript script → IsMainSide actor → IsRunOf format script journal → entries_of journal actor ≡ operations_of script actor

-- whether a stream is open after an event, where the event says so
abbrev pub stream_told : Event → Option Bool
stream_told Connect = Some true
stream_told Disconnect = Some false
stream_told event = None

-- a stream is open after these entries, by the last connect or disconnect among them
abbrev pub is_open_behind : List Entry → Bool
is_open_behind entries = unwrap_or (last_or None (filter_map (λ (entry : Entry). stream_told entry.event) entries)) false

-- this holds in the machine
abbrev pub StreamFollows : Type 0
StreamFollows =
    (format : Format) (workers : ℕ) (node : List ℕ) (entries : List Entry)
    → (world_after format (opening workers node) entries).stream ≡ is_open_behind entries
