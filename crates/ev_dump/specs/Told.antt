-- The entries that rows record, found in their script. This project's own.
use Rattle.std.specs.Prelude.{ℕ, ◌==◌, List, Option, Some, None, All, find, IsSome}
use Rattle.ev_types.specs.Scripts.{ScriptParts}
use Rattle.ev_types.specs.declared.events.Event.{Event}
use Rattle.ev_types.specs.declared.events.Event.TheVariants.{Publish as publish, Reap as reap, Settle as settle}
use Rattle.ev_types.specs.declared.events.Line.{Line}
use Rattle.ev_types.specs.declared.events.Op.{Op}
use Rattle.ev_types.specs.declared.events.Op.TheVariants.{Connect, Disconnect, Response, Health, FetchTimeout, DrainTimeout, TtlExpired, Publish, Reap, Accept, Close, Settle}
use Rattle.ev_types.specs.declared.journals.Row.{Row}
use Rattle.ev_model.specs.Finding.{entry_told}

-- the script has the operation of each row
abbrev pub AreTold : ScriptParts → List Row → Type 0
AreTold script rows = All (λ (row : Row). IsSome (entry_told script row)) rows

-- the event of a word that comes after lines too: the word says all of it
abbrev pub event_behind : Op → Option Event
event_behind Publish = Some publish
event_behind Reap = Some reap
event_behind Settle = Some settle
event_behind Connect = None
event_behind Disconnect = None
event_behind Response = None
event_behind Health = None
event_behind FetchTimeout = None
event_behind DrainTimeout = None
event_behind TtlExpired = None
event_behind Accept = None
event_behind Close = None

-- the line of a number
abbrev pub line_numbered : ℕ → List Line → Option Line
line_numbered at lines = find (λ (line : Line). line.at == at) lines
