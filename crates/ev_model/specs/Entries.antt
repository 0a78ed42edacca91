-- What an entry of a journal tells by itself. This project's own.
use Rattle.std.specs.Prelude.{ℕ, zero, suc, ◌-◌, Bool, true, false, not, ◌&&◌, ◌||◌, ◌==◌, nat_le, if◌then◌else◌, List, [], ◌∷◌, filter_map, length, Option, Some, None, unwrap_or, slice_get, option_map}
use Rattle.std.specs.List.{flat_map, last_or, list_any, zip}
use Rattle.std.specs.Str.{bytes_eq}
use Rattle.ev_types.specs.Items.{ItemParts, ResponseParts}
use Rattle.ev_types.specs.Kinds.{kind_same}
use Rattle.ev_types.specs.Timeouts.{TimeoutParts}
use Rattle.ev_types.specs.declared.contents.Kind.{Kind}
use Rattle.ev_types.specs.declared.contents.Kind.TheVariants.{Sds}
use Rattle.ev_types.specs.declared.hosts.Host.{Host}
use Rattle.ev_types.specs.declared.ways.Way.{Way}
use Rattle.ev_types.specs.declared.ways.Way.TheVariants.{Elsewhere, NoSecret, Served}
use Rattle.ev_types.specs.declared.contents.Body.{Body}
use Rattle.ev_types.specs.declared.contents.Body.TheVariants.{Good}
use Rattle.ev_types.specs.declared.contents.Content.{Content}
use Rattle.ev_types.specs.declared.events.Actor.{Actor}
use Rattle.ev_types.specs.declared.events.Event.{Event}
use Rattle.ev_types.specs.declared.events.Event.TheVariants.{Response, FetchTimeout, Accept, Close, Settle}
use Rattle.ev_types.specs.declared.events.Answer.{Answer}
use Rattle.ev_types.specs.declared.events.Answer.TheVariants.{Done, Moved, Replied, Version, Reaped, On, Settled}
use Rattle.ev_types.specs.declared.events.Verdict.{Verdict}
use Rattle.ev_types.specs.declared.events.Verdict.TheVariants.{New, InPlace, Back, Same, Kept, Unasked, Renewed, Refused}
use Rattle.ev_types.specs.declared.events.Entry.{Entry}
use Rattle.ev_model.specs.Watching.{Dependency}
use Rattle.ev_model.specs.Verdicts.{is_removed}
use Rattle.ev_model.specs.Picture.{has_number}
use Rattle.ev_model.specs.Dead.{is_forwarded_to}
use Rattle.ev_model.specs.Operations.{actor_same}

-- a generation as its resource made it
pub record MadeRow : Type 0 where
  pub kind : Kind
  pub name : List ℕ
  pub content : Content

-- what a resource made, where its verdict is that it's new, or new in place of one that serves
abbrev pub made_by : Kind → Verdict → List ℕ → Body → List MadeRow
made_by kind New name (Good content) = record { kind = kind; name = name; content = content } ∷ []
made_by kind InPlace name (Good content) = record { kind = kind; name = name; content = content } ∷ []
made_by kind verdict name body = []

-- what resources of this kind made, with these verdicts
abbrev pub made_with : Kind → List Verdict → List ItemParts → List MadeRow
made_with kind verdicts items =
    flat_map (λ (judged : Verdict × ItemParts). made_by kind judged.0 judged.1.name judged.1.body) (zip verdicts items)

-- what a response made
abbrev pub made_in_response : Option Kind → ResponseParts → List Verdict → List MadeRow
made_in_response None response verdicts = []
made_in_response (Some kind) response verdicts = made_with kind verdicts response.items

-- what an event made, by its answer
abbrev pub made_in : Event → Answer → List MadeRow
made_in (Response response) (Replied requests verdicts) = made_in_response response.kind response verdicts
made_in event answer = []

-- all generations that a journal made, in the order of their numbers
abbrev pub made_rows : List Entry → List MadeRow
made_rows journal = flat_map (λ (entry : Entry). made_in entry.event entry.answer) journal

-- the generation of this number, as a journal made it; numbers begin at 1
abbrev pub made_of : List Entry → ℕ → Option MadeRow
made_of journal zero = None
made_of journal (suc place) = slice_get (made_rows journal) place

-- the cluster that a way names, if it names one
abbrev pub cluster_named_by : Way Host → Option ℕ
cluster_named_by (Elsewhere cluster) = cluster
cluster_named_by (NoSecret cluster) = cluster
cluster_named_by (Served cluster host) = Some cluster
cluster_named_by way = None

-- the answer names the generation of this number, as a listener or as a cluster
abbrev pub names_row : ℕ → Answer → Bool
names_row number (On listener chain way) = (listener == number) || is_forwarded_to number (cluster_named_by way)
names_row number answer = false

-- the resource was of this name, and kept or refused
abbrev pub is_word_on : List ℕ → Verdict → ItemParts → Bool
is_word_on name Kept item = bytes_eq item.name name
is_word_on name (Refused rule) item = bytes_eq item.name name
is_word_on name New item = false
is_word_on name InPlace item = false
is_word_on name Back item = false
is_word_on name Same item = false
is_word_on name Unasked item = false
is_word_on name Renewed item = false

-- one of these resources was
abbrev pub has_word_on : List ℕ → List Verdict → List ItemParts → Bool
has_word_on name verdicts items = list_any (λ (judged : Verdict × ItemParts). is_word_on name judged.0 judged.1) (zip verdicts items)

-- the response is of this kind
abbrev pub is_response_of : Kind → ResponseParts → Bool
is_response_of kind response = unwrap_or (option_map (kind_same kind) response.kind) false

-- a response that removes the name of this kind says so to whoever waits for it;
-- that a secret is removed is said to nobody
abbrev pub tells_of_removal : Kind → List ℕ → ResponseParts → Bool
tells_of_removal kind name response = not (kind_same kind Sds) && is_removed response name

-- an answered response of this kind has a resource of the name that is kept or refused,
-- or says that the name is removed
abbrev pub tells_of_name : Kind → List ℕ → Event → Answer → Bool
tells_of_name kind name (Response response) (Replied requests verdicts) =
    is_response_of kind response && (has_word_on name verdicts response.items || tells_of_removal kind name response)
tells_of_name kind name event answer = false

-- the timeout is that of this name
abbrev pub is_timeout_of : Kind → List ℕ → TimeoutParts → Bool
is_timeout_of kind name timeout = kind_same timeout.kind kind && unwrap_or (option_map (bytes_eq name) timeout.name) false

-- the name's fetch timeout passed while it was awaited
abbrev pub times_out : Kind → List ℕ → Event → Answer → Bool
times_out kind name (FetchTimeout timeout) (Moved requests) = is_timeout_of kind name timeout
times_out kind name event answer = false

-- the entry is what a generation with this dependency waits for:
-- a word of the control plane, or its timeout where that ends the wait
abbrev pub answers_wait : Dependency → Entry → Bool
answers_wait d entry =
    tells_of_name d.kind d.name entry.event entry.answer || (d.limited && times_out d.kind d.name entry.event entry.answer)

-- those of these entries that come after the one that made the generation of this number
abbrev pub entries_since : ℕ → List Entry → List Entry
entries_since number [] = []
entries_since number (entry ∷ entries) =
    let made = length (made_in entry.event entry.answer) in
    if nat_le number made then entries else entries_since (number - made) entries

-- those of these entries that count for a dependency of the generation of this number:
-- of a fresh one only those since it was made
abbrev pub entries_for : ℕ → List Entry → Dependency → List Entry
entries_for number entries d = if d.fresh then entries_since number entries else entries

-- one of these entries ends the wait of the generation of this number for this dependency
abbrev pub has_ended_wait : ℕ → List Entry → Dependency → Bool
has_ended_wait number entries d = list_any (answers_wait d) (entries_for number entries d)

-- the event is an accept
abbrev pub is_accept : Event → Bool
is_accept (Accept ask) = true
is_accept event = false

-- the version that a settle has reported
abbrev pub version_settled : Answer → Option ℕ
version_settled (Settled closed moved version) = Some version
version_settled answer = None

-- the version that the actor has settled on by this entry
abbrev pub version_settled_by : Actor → Entry → Option ℕ
version_settled_by actor entry = if actor_same entry.actor actor then version_settled entry.answer else None

-- the version that an actor settled on last, or 0
abbrev pub last_settled : List Entry → Actor → ℕ
last_settled journal actor = unwrap_or (last_or None (filter_map (version_settled_by actor) journal)) 0

-- the version that a publication has made
abbrev pub version_published : Answer → Option ℕ
version_published (Version version) = Some version
version_published answer = None

-- the numbers that a reaping has named
abbrev pub numbers_reaped : Answer → List ℕ
numbers_reaped (Reaped numbers) = numbers
numbers_reaped answer = []

-- the connection that an accept was of
abbrev pub connection_of : Event → Option ℕ
connection_of (Accept ask) = Some ask.conn
connection_of event = None

-- by a close that was done, or by a settle that has closed it or moved it on
abbrev pub releases_connection : ℕ → Event → Answer → Bool
releases_connection connection (Close closed) Done = closed == connection
releases_connection connection Settle (Settled closed moved version) = has_number connection closed || has_number connection moved
releases_connection connection event answer = false

-- by the entry this actor's connection is closed, or moves on from the listener that it is on
abbrev pub releases : Actor → ℕ → Entry → Bool
releases actor connection entry = actor_same entry.actor actor && releases_connection connection entry.event entry.answer
