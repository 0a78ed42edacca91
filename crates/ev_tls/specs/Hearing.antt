-- What a line says where a stream is open.
use Rattle.std.specs.Prelude.{Bool, true, false, List, [], ◌∷◌, Option, Some, None, if◌then◌else◌, unwrap_or, option_and_then}
use Rattle.serde_json.specs.Data.{Data}
use Rattle.ev_types.specs.declared.events.Event.{Event}
use Rattle.ev_types.specs.declared.events.Event.TheVariants.{Connect, Disconnect, Response}
use Rattle.ev_expand.specs.Fronts.{stream_said}

-- the line, where a stream is open
abbrev pub heard_now : Bool → Data → List Data
heard_now connected line = if connected then line ∷ [] else []

-- whether a stream is open after an event
abbrev pub open_after : Bool → Option Event → Bool
open_after connected event = unwrap_or (option_and_then stream_said event) connected

-- the event says nothing of the stream, of secrets or of endpoints: it is no connect, disconnect or response
abbrev pub is_quiet : Option Event → Bool
is_quiet None = true
is_quiet (Some Connect) = false
is_quiet (Some Disconnect) = false
is_quiet (Some (Response response)) = false
is_quiet (Some event) = true
