-- The lines of an input up to one of them, and what is known of the stream there.
use Rattle.std.specs.Prelude.{Bool, true, false, not, ◌&&◌, List, [], ◌∷◌, ◌++◌, map, filter, filter_map, Option, Some, None, option_map, option_and_then, unwrap_or, codes}
use Rattle.std.specs.List.{last_or}
use Rattle.serde_json.specs.Data.{Data, null}
use Rattle.serde_json.specs.Find.{get}
use Rattle.ev_types.specs.declared.events.Event.{Event}
use Rattle.ev_types.specs.declared.events.Event.TheVariants.{Connect, Disconnect}
use Rattle.ev_types.specs.declared.events.Line.{Line}
use Rattle.ev_types.specs.declared.events.Profile.{Profile}
use Rattle.ev_script.specs.Lines.{line_of}

-- a line of an input, and the lines before it
pub record Front : Type 0 where
  pub before : List Data
  pub line : Data

-- the lines up to it, and it
abbrev pub up_to : Front → List Data
up_to front = front.before ++ front.line ∷ []

-- the prefix with one more line before all others
abbrev pub behind : Data → Front → Front
behind first front = record { before = first ∷ front.before; line = front.line }

-- the prefixes that end at each of these lines, in order
abbrev pub fronts : List Data → List Front
fronts [] = []
fronts (first ∷ lines) = record { before = []; line = first } ∷ map (behind first) (fronts lines)

-- the event of a line of a script of this profile, whatever its place
abbrev pub event_of : Profile → Data → Option Event
event_of profile line = option_map (λ (l : Line). l.event) (line_of profile 0 line)

-- whether a stream is open after an event, where the event says so
abbrev pub stream_said : Event → Option Bool
stream_said Connect = Some true
stream_said Disconnect = Some false
stream_said event = None

-- a stream is open after these lines: the last connect or disconnect among them is a connect
abbrev pub stream_at : Profile → List Data → Bool
stream_at profile lines = unwrap_or (last_or None (filter_map (λ line. option_and_then stream_said (event_of profile line)) lines)) false

-- the line opens the stream
abbrev pub opens : Profile → Front → Bool
opens profile front = stream_at profile (up_to front) && not (stream_at profile front.before)

-- the lines where a stream is open, in order
abbrev pub heard : Profile → List Data → List Data
heard profile lines = map (λ (front : Front). front.line) (filter (λ front. stream_at profile (up_to front)) (fronts lines))

-- the message of a line of a response
abbrev pub message_of : Data → Data
message_of line = unwrap_or (get (codes "message") line) null
