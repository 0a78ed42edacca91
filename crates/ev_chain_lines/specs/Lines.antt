-- The lines of an input of filter chains, and the events that they are.
use Rattle.std.specs.Prelude.{ℕ, Bool, true, false, List, [], ◌∷◌, if◌then◌else◌, codes, Option, None, Some, option_map, option_and_then, unwrap_or}
use Rattle.std.specs.Str.{bytes_eq}
use Rattle.serde_json.specs.Data.{Data}
use Rattle.serde_json.specs.Find.{as_str, as_bool}
use Rattle.ev_types.specs.declared.events.Profile.TheVariants.{Own}
use Rattle.ev_types.specs.declared.limits.TheConstants.{MAX_NAME_LENGTH}
use Rattle.ev_tree.specs.Forms.{object_in}
use Rattle.ev_io.specs.Lines.{lines_of}
use Rattle.ev_script.specs.declared.forms.Settings.{Settings}
use Rattle.ev_script.specs.Faults.{LineForms}
use Rattle.ev_script.specs.LineForms.{with_only}
use Rattle.ev_script.specs.Members.{tree_of, tree_told, has_only, whole_within, text_within, member_of, member_or}
use Rattle.ev_chains.specs.Steps.{Event, Update, Accept, Close, DrainTimeout, Reap}
use Rattle.ev_chain_lines.specs.declared.limits.TheConstants.{MAX_NUMBER, MAX_PORT_NUMBER}

-- ---- the header

-- what it sets, where it is one: no workers, and the project's own profile
abbrev pub header_by : Bool → Option Settings
header_by true = Some record { workers = 0; profile = Own }
header_by false = None

-- the first line has the member `chains`, which is true, and no other
abbrev pub header_of : Data → Option Settings
header_of tree = if has_only (codes "chains" ∷ []) tree then option_and_then header_by (member_of as_bool (codes "chains") tree) else None

-- ---- the other lines

-- `listener`: the listener in a version. Its member is `message`, an object.
abbrev pub listener_event : Data → Option Event
listener_event tree = with_only (codes "message" ∷ []) tree (option_map (λ message. Update message) (member_of object_in (codes "message") tree))

-- a connection's number
abbrev pub conn_in : Data → Option ℕ
conn_in tree = member_of (whole_within 0 MAX_NUMBER) (codes "conn") tree

-- the port that a connection comes to
abbrev pub port_in : Data → Option ℕ
port_in tree = member_of (whole_within 0 MAX_PORT_NUMBER) (codes "port") tree

-- the server that a connection names: at most 512 bytes, none where it isn't given
abbrev pub server_in : Data → Option (List ℕ)
server_in tree = member_or [] (text_within 0 MAX_NAME_LENGTH) (codes "serverName") tree

-- a connection's number, port and server
abbrev pub asked_in : Data → Option Event
asked_in tree = option_and_then
    (λ conn. option_and_then
    (λ port. option_map (λ server. Accept conn port server) (server_in tree))
    (port_in tree))
    (conn_in tree)

-- `accept`: a connection comes. Its members are `conn`, `port` and `serverName`.
abbrev pub accept_event : Data → Option Event
accept_event tree = with_only (codes "conn" ∷ codes "port" ∷ codes "serverName" ∷ []) tree (asked_in tree)

-- `close`: a connection closes. Its member is `conn`.
abbrev pub close_event : Data → Option Event
close_event tree = with_only (codes "conn" ∷ []) tree (option_map (λ conn. Close conn) (conn_in tree))

-- `drainTimeout` and `reap` have no member
abbrev pub bare_event : Event → Data → Option Event
bare_event event tree = with_only [] tree (Some event)

abbrev pub event_by : List ℕ → Data → Option Event
event_by op tree =
    if bytes_eq op (codes "listener") then listener_event tree
    else if bytes_eq op (codes "accept") then accept_event tree
    else if bytes_eq op (codes "close") then close_event tree
    else if bytes_eq op (codes "drainTimeout") then bare_event DrainTimeout tree
    else if bytes_eq op (codes "reap") then bare_event Reap tree
    else None

-- the event that a tree is, or none where it isn't one
abbrev pub event_of : Data → Option Event
event_of tree = option_and_then (λ op. event_by op tree) (member_of as_str (codes "op") tree)

-- the event of a line of this text, which is one
abbrev pub event_told : List ℕ → Event
event_told text = unwrap_or (event_of (tree_told text)) Reap

-- ---- inputs

-- the forms of the lines: no line names a worker
abbrev pub chain_lines : LineForms
chain_lines = record { heads = header_of; lines = λ profile at tree. option_map (λ (event : Event). None) (event_of tree) }

-- the events of lines, where each is one
abbrev pub events_from : List (List ℕ) → Option (List Event)
events_from [] = Some []
events_from (text ∷ texts) = option_and_then (λ event. option_map (λ events. event ∷ events) (events_from texts)) (option_and_then event_of (tree_of text))

-- the events of the lines after the first
abbrev pub events_behind : List (List ℕ) → Option (List Event)
events_behind [] = None
events_behind (first ∷ texts) = events_from texts

-- the events of an input without fault
abbrev pub events_of : List ℕ → Option (List Event)
events_of bytes = events_behind (lines_of bytes)
