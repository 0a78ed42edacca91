-- The requests of the state of the world, by a search of the entries so far.
use Rattle.std.specs.Prelude.{ℕ, List, [], ◌∷◌, ◌++◌, map, filter, filter_map, Bool, true, false, not, ◌&&◌, if◌then◌else◌, codes, slice_get, Option, None, Some, is_some, option_and_then, unwrap_or}
use Rattle.std.specs.List.{last_or, flat_map}
use Rattle.serde_json.specs.Data.{Data, string, array, object, Members, member, no_members, put}
use Rattle.serde_json.specs.View.{items_of}
use Rattle.ev_types.specs.Kinds.{type_url, kind_same}
use Rattle.ev_types.specs.Events.{op_of}
use Rattle.ev_types.specs.declared.contents.Kind.{Kind}
use Rattle.ev_types.specs.declared.contents.Request.{Request}
use Rattle.ev_types.specs.declared.events.Answer.{Answer}
use Rattle.ev_types.specs.declared.events.Answer.TheVariants.{Moved, Replied}
use Rattle.ev_types.specs.declared.events.Entry.{Entry}
use Rattle.ev_types.specs.declared.events.Event.{Event}
use Rattle.ev_types.specs.declared.events.Event.TheVariants.{Connect}
use Rattle.ev_model.specs.Verdicts.{is_among}
use Rattle.ev_model.specs.Watching.{sorted_names}
use Rattle.ev_wire.specs.Requests.{with_names, with_node, with_error}
use Rattle.ev_journal.specs.Rendering.{verdict_tree, answer_tree, row_object, line_text}

-- ---- entries

-- an entry of a journal, with the version of the response that it answers: the empty text where it answers none
pub record Stated : Type 0 where
  pub entry : Entry
  pub version : List ℕ

abbrev pub stated_with : Entry → List ℕ → Stated
stated_with entry version = record { entry = entry; version = version }

abbrev pub is_connect : Event → Bool
is_connect Connect = true
is_connect event = false

abbrev pub is_moved : Answer → Bool
is_moved (Moved requests) = true
is_moved answer = false

-- the entry opens a stream: a connect that is answered with requests
abbrev pub opens : Entry → Bool
opens entry = is_connect entry.event && is_moved entry.answer

-- the requests of an answer
abbrev pub requests_in : Answer → List Request
requests_in (Moved requests) = requests
requests_in (Replied requests verdicts) = requests
requests_in answer = []

-- the reply to a response, which is the first of the requests of its answer
abbrev pub reply_in : Answer → Option Request
reply_in (Replied requests verdicts) = slice_get requests 0
reply_in answer = None

-- ---- nonces: the last reply of a type on this stream gives one

abbrev pub nonce_by : Kind → Request → Option (List ℕ)
nonce_by kind reply = if kind_same reply.kind kind then reply.nonce else None

-- the nonce that an entry gives for a type: none where it opens a stream
abbrev pub nonce_said : Kind → Stated → Option (List ℕ)
nonce_said kind stated = if opens stated.entry then Some [] else option_and_then (nonce_by kind) (reply_in stated.entry.answer)

abbrev pub last_nonce : Kind → List Stated → List ℕ
last_nonce kind entries = unwrap_or (last_or None (filter_map (nonce_said kind) entries)) []

-- ---- versions: the last reply of a type without an error acknowledges one, on this stream or before

abbrev pub version_by : Kind → List ℕ → Request → Option (List ℕ)
version_by kind version reply = if kind_same reply.kind kind && not (is_some reply.error) then Some version else None

-- the version that an entry acknowledges of a type
abbrev pub version_said : Kind → Stated → Option (List ℕ)
version_said kind stated = option_and_then (version_by kind stated.version) (reply_in stated.entry.answer)

abbrev pub last_version : Kind → List Stated → List ℕ
last_version kind entries = unwrap_or (last_or None (filter_map (version_said kind) entries)) []

-- ---- names: those that were asked for on this stream, and not given up since

abbrev pub asked_by : Kind → Request → List (List ℕ)
asked_by kind request = if kind_same request.kind kind then request.subscribe else []

abbrev pub given_up_by : Kind → Request → List (List ℕ)
given_up_by kind request = if kind_same request.kind kind then request.unsubscribe else []

-- the names of a type that an entry asks for
abbrev pub asked : Kind → Stated → List (List ℕ)
asked kind stated = flat_map (asked_by kind) (requests_in stated.entry.answer)

-- those that it gives up
abbrev pub given_up : Kind → Stated → List (List ℕ)
given_up kind stated = flat_map (given_up_by kind) (requests_in stated.entry.answer)

-- whether a name is asked for after an entry, where it says so: an entry that opens a stream says it of each name
abbrev pub asked_said : Kind → List ℕ → Stated → Option Bool
asked_said kind name stated =
    if opens stated.entry then Some (is_among name (asked kind stated))
    else if is_among name (asked kind stated) then Some true
    else if is_among name (given_up kind stated) then Some false
    else None

-- a name is asked for after these entries
abbrev pub is_asked : Kind → List Stated → List ℕ → Bool
is_asked kind entries name = unwrap_or (last_or None (filter_map (asked_said kind name) entries)) false

-- the names that are asked for after these entries, in the order of their bytes, each once
abbrev pub names_asked : Kind → List Stated → List (List ℕ)
names_asked kind entries = sorted_names (filter (is_asked kind entries) (flat_map (asked kind) entries))

-- ---- requests

-- what is known of a type
pub record Known : Type 0 where
  pub version : List ℕ
  pub nonce : List ℕ
  pub names : List (List ℕ)

abbrev pub nothing_known : Known
nothing_known = record { version = []; nonce = []; names = [] }

-- what is known of a type after these entries
abbrev pub known_of : Kind → List Stated → Known
known_of kind entries = record { version = last_version kind entries; nonce = last_nonce kind entries; names = names_asked kind entries }

-- a text as a member, where it isn't empty
abbrev pub with_text : List ℕ → List ℕ → Members → Members
with_text key [] members = members
with_text key (byte ∷ bytes) members = put key (string (byte ∷ bytes)) members

-- a request of the state of the world, whose empty members are left out
unfoldable pub sotw_request : Known → Request → Data
sotw_request known request = object
    (with_text (codes "versionInfo") known.version
    (with_error request.error
    (with_node request.node
    (with_names (codes "resourceNames") known.names
    (with_text (codes "responseNonce") known.nonce
    (put (codes "typeUrl") (string (type_url request.kind)) no_members))))))

-- a request of the last of these entries
abbrev pub request_told : List Stated → Request → Data
request_told entries request = sotw_request (known_of request.kind entries) request

-- requests of the last of these entries
abbrev pub requests_told : List Stated → List Request → Data
requests_told entries requests = array (items_of (map (request_told entries) requests))

-- the answer of the last of these entries, with requests of the state of the world
abbrev pub answer_told : List Stated → Answer → Data
answer_told entries (Moved requests) = object (member (codes "requests") (requests_told entries requests) no_members)
answer_told entries (Replied requests verdicts) =
    object (member (codes "requests") (requests_told entries requests)
    (member (codes "verdicts") (array (items_of (map verdict_tree verdicts))) no_members))
answer_told entries answer = answer_tree answer

-- the last of these entries, as it is written
abbrev pub entry_told : List Stated → Entry → Data
entry_told entries entry = row_object entry.actor entry.at entry.step (op_of entry.event) (answer_told entries entry.answer)

-- the line of an entry after others
abbrev pub sotw_line : List Stated → Stated → List ℕ
sotw_line before stated = line_text (entry_told (before ++ stated ∷ []) stated.entry)
