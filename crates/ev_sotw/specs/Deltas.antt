-- The lines of the incremental script that say what the lines of the state of the world say.
-- What is removed is found by a search of the lines before.
use Rattle.std.specs.Prelude.{ℕ, List, [], map, filter_map, Bool, true, false, if◌then◌else◌, codes, Option, None, Some, option_map, option_and_then, unwrap_or}
use Rattle.std.specs.List.{last_or}
use Rattle.serde_json.specs.Data.{Data, string, object, member, no_members}
use Rattle.ev_types.specs.declared.contents.Kind.{Kind}
use Rattle.ev_types.specs.declared.events.Profile.{Profile}
use Rattle.ev_types.specs.Kinds.{kind_same, is_by_name}
use Rattle.ev_model.specs.Requests.{other_than}
use Rattle.ev_script.specs.Members.{is_op}
use Rattle.ev_sotw.specs.Discovery.{DiscoveryParts, names_in}
use Rattle.ev_sotw.specs.Delta.{delta_message}
use Rattle.ev_sotw.specs.Searches.{with_before}
use Rattle.ev_sotw.specs.Lines.{response_in}

-- ---- searches of the lines so far

-- whether a stream is open after a line, where the line says so
abbrev pub stream_said : Data → Option Bool
stream_said line = if is_op (codes "connect") line then Some true else if is_op (codes "disconnect") line then Some false else None

-- a stream is open after these lines, by the last connect or disconnect among them
abbrev pub is_open_after : List Data → Bool
is_open_after lines = unwrap_or (last_or None (filter_map stream_said lines)) false

abbrev pub is_of_kind : Kind → Option Kind → Bool
is_of_kind kind None = false
is_of_kind kind (Some other) = kind_same other kind

-- the names of a response, where it is of this kind
abbrev pub names_for : Kind → DiscoveryParts → Option (List (List ℕ))
names_for kind response = if is_of_kind kind response.kind then Some (names_in kind response) else None

-- the names that a line brings after those before it: of a response of this kind on an open stream
abbrev pub names_brought : Profile → Kind → List Data × Data → Option (List (List ℕ))
names_brought profile kind placed = if is_open_after placed.0 then option_and_then (names_for kind) (response_in profile placed.1) else None

-- the names of the last response of this kind that came on an open stream
abbrev pub last_names : Profile → Kind → List Data → List (List ℕ)
last_names profile kind lines = unwrap_or (last_or None (filter_map (names_brought profile kind) (with_before [] lines))) []

-- ---- the lines

-- the names that a response of this kind removes, after these lines:
-- of clusters and listeners those of the last response that it hasn't itself
abbrev pub removed_of_kind : Profile → Option Kind → List Data → DiscoveryParts → List (List ℕ)
removed_of_kind profile None lines response = []
removed_of_kind profile (Some kind) lines response =
    if is_by_name kind then [] else other_than (names_in kind response) (last_names profile kind lines)

abbrev pub removed_at : Profile → List Data → DiscoveryParts → List (List ℕ)
removed_at profile lines response = removed_of_kind profile response.kind lines response

-- a line with a message of the incremental protocol
abbrev pub delta_line : Data → Data
delta_line message = object (member (codes "message") message (member (codes "op") (string (codes "response")) no_members))

-- the line with the message that says the same, where a line brings a response of the state of the world
abbrev pub delta_in : Profile → List Data → Data → Option Data
delta_in profile lines line =
    option_map (λ response. delta_line (delta_message response (map string (removed_at profile lines response)))) (response_in profile line)

-- what a line becomes, after those before it: all other lines stay
abbrev pub delta_of : Profile → List Data → Data → Data
delta_of profile lines line = unwrap_or (delta_in profile lines line) line

-- what the lines become
abbrev pub deltas_of : Profile → List Data → List Data
deltas_of profile lines = map (λ (placed : List Data × Data). delta_of profile placed.0 placed.1) (with_before [] lines)
