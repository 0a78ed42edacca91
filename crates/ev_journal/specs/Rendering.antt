-- The text of a journal: lines of compact JSON with sorted keys, each closed by a line feed.
-- This project's own; a request's text is that of the crate that writes requests.
use Rattle.std.specs.Prelude.{ℕ, List, [], ◌∷◌, ◌++◌, length, map, Option, None, Some, codes, decimal}
use Rattle.std.specs.List.{flat_map}
use Rattle.serde_json.specs.Data.{Data, number, unsigned, string, array, object, Members, member, no_members}
use Rattle.serde_json.specs.View.{items_of}
use Rattle.serde_json.specs.Written.{compact_text}
use Rattle.ev_types.specs.declared.events.Actor.{Actor}
use Rattle.ev_types.specs.declared.events.Actor.TheVariants.{Stream, Health, Timer, Main, Worker}
use Rattle.ev_types.specs.declared.events.Op.{Op}
use Rattle.ev_types.specs.declared.events.Op.TheVariants.{Connect, Disconnect, Response, Health as health, FetchTimeout, DrainTimeout, TtlExpired, Publish, Reap, Accept, Close, Settle}
use Rattle.ev_types.specs.declared.events.Answer.{Answer}
use Rattle.ev_types.specs.declared.events.Answer.TheVariants.{Ignored, Done, Moved, Replied, Version, Unchanged, Reaped, InUse, NoListener, NoChain, On, NotOpen, Settled}
use Rattle.ev_types.specs.declared.origins.ChainPlace.{ChainPlace}
use Rattle.ev_types.specs.declared.origins.ChainPlace.TheVariants.{At, Default}
use Rattle.ev_types.specs.declared.ways.Way.{Way}
use Rattle.ev_types.specs.declared.ways.Way.TheVariants.{Undecided, Elsewhere, NoRoute, Redirect, NoCluster, NoEndpoint, NoSecret, Local, Served}
use Rattle.ev_types.specs.declared.hosts.Host.{Host}
use Rattle.ev_types.specs.declared.events.Verdict.{Verdict}
use Rattle.ev_types.specs.declared.events.Verdict.TheVariants.{New, Same, InPlace, Back, Kept, Unasked, Renewed, Refused}
use Rattle.ev_types.specs.declared.events.Entry.{Entry}
use Rattle.ev_types.specs.declared.journals.Row.{Row}
use Rattle.ev_types.specs.declared.journals.Format.{Format}
use Rattle.ev_types.specs.declared.journals.Format.TheVariants.{One, Two}
use Rattle.ev_types.specs.declared.contents.Request.{Request}
use Rattle.ev_types.specs.Events.{op_of}
use Rattle.ev_wire.specs.Requests.{request_tree}

-- an actor in words: a worker is `w` and its number
abbrev pub actor_text : Actor → List ℕ
actor_text Stream = codes "stream"
actor_text Health = codes "health"
actor_text Timer = codes "timer"
actor_text Main = codes "main"
actor_text (Worker worker) = codes "w" ++ decimal worker

-- an operation's word
abbrev pub op_text : Op → List ℕ
op_text Connect = codes "connect"
op_text Disconnect = codes "disconnect"
op_text Response = codes "response"
op_text health = codes "health"
op_text FetchTimeout = codes "fetchTimeout"
op_text DrainTimeout = codes "drainTimeout"
op_text TtlExpired = codes "ttlExpired"
op_text Publish = codes "publish"
op_text Reap = codes "reap"
op_text Accept = codes "accept"
op_text Close = codes "close"
op_text Settle = codes "settle"

-- a number as data
abbrev pub number_tree : ℕ → Data
number_tree n = number (unsigned n)

-- a verdict in words: the rule that is broken is `V` and its number
abbrev pub verdict_text : Verdict → List ℕ
verdict_text New = codes "new"
verdict_text Same = codes "same"
verdict_text InPlace = codes "inPlace"
verdict_text Back = codes "back"
verdict_text Kept = codes "kept"
verdict_text Unasked = codes "unasked"
verdict_text Renewed = codes "renewed"
verdict_text (Refused rule) = codes "V" ++ decimal rule

abbrev pub verdict_tree : Verdict → Data
verdict_tree verdict = string (verdict_text verdict)

-- requests that are sent
abbrev pub requests_tree : List Request → Data
requests_tree requests = array (items_of (map request_tree requests))

-- numbers of generations or connections
abbrev pub numbers_tree : List ℕ → Data
numbers_tree numbers = array (items_of (map number_tree numbers))

-- a member before others, where there is a value for it
abbrev pub with_given : {A : Type 0} → List ℕ → (A → Data) → Option A → Members → Members
with_given key tree None members = members
with_given key tree (Some value) members = member key (tree value) members

-- the place of a chain: its number in its listener, or the default chain's word
abbrev pub place_tree : ChainPlace → Data
place_tree (At place) = number_tree place
place_tree Default = string (codes "default")

-- what becomes of a connection that a listener takes, in a word: by which chain where one was found, and of which
-- cluster where one is named
abbrev pub going_tree : List ℕ → ℕ → Option ChainPlace → Option ℕ → Data
going_tree word listener chain cluster = object
    (with_given (codes "chain") place_tree chain
    (with_given (codes "cluster") number_tree cluster
    (member (codes "listener") (number_tree listener)
    (member (codes "result") (string word) no_members))))

-- a connection that is answered at once
abbrev pub local_tree : ℕ → Option ChainPlace → ℕ → Data
local_tree listener chain status = object
    (with_given (codes "chain") place_tree chain
    (member (codes "listener") (number_tree listener)
    (member (codes "result") (string (codes "local"))
    (member (codes "status") (number_tree status) no_members))))

-- a connection that goes to a host of a cluster
abbrev pub served_tree : ℕ → Option ChainPlace → ℕ → Host → Data
served_tree listener chain cluster host = object
    (member (codes "address") (string host.address)
    (with_given (codes "chain") place_tree chain
    (member (codes "cluster") (number_tree cluster)
    (member (codes "listener") (number_tree listener)
    (member (codes "port") (number_tree host.port)
    (member (codes "result") (string (codes "served")) no_members))))))

-- a connection that a listener takes
abbrev pub taken_tree : ℕ → Option ChainPlace → Way Host → Data
taken_tree listener chain Undecided = going_tree (codes "undecided") listener chain None
taken_tree listener chain (Elsewhere cluster) = going_tree (codes "elsewhere") listener chain cluster
taken_tree listener chain NoRoute = going_tree (codes "noRoute") listener chain None
taken_tree listener chain Redirect = going_tree (codes "redirect") listener chain None
taken_tree listener chain NoCluster = going_tree (codes "noCluster") listener chain None
taken_tree listener chain NoEndpoint = going_tree (codes "noEndpoint") listener chain None
taken_tree listener chain (NoSecret cluster) = going_tree (codes "noSecret") listener chain cluster
taken_tree listener chain (Local status) = local_tree listener chain status
taken_tree listener chain (Served cluster host) = served_tree listener chain cluster host

-- numbers, where there are any
abbrev pub any_of : List ℕ → Option (List ℕ)
any_of [] = None
any_of (first ∷ others) = Some (first ∷ others)

-- a settle: the connections that were closed, and those that moved where there are any
abbrev pub settled_tree : List ℕ → List ℕ → ℕ → Data
settled_tree closed moved version = object
    (member (codes "closed") (numbers_tree closed)
    (with_given (codes "moved") numbers_tree (any_of moved)
    (member (codes "version") (number_tree version) no_members)))

-- an answer
abbrev pub answer_tree : Answer → Data
answer_tree Ignored = string (codes "ignored")
answer_tree Done = string (codes "done")
answer_tree (Moved requests) = object (member (codes "requests") (requests_tree requests) no_members)
answer_tree (Replied requests verdicts) =
    object (member (codes "requests") (requests_tree requests)
    (member (codes "verdicts") (array (items_of (map verdict_tree verdicts))) no_members))
answer_tree (Version version) = object (member (codes "version") (number_tree version) no_members)
answer_tree Unchanged = string (codes "unchanged")
answer_tree (Reaped numbers) = object (member (codes "reaped") (numbers_tree numbers) no_members)
answer_tree InUse = string (codes "inUse")
answer_tree NoListener = string (codes "noListener")
answer_tree NoChain = string (codes "noChain")
answer_tree (On listener chain way) = taken_tree listener chain way
answer_tree NotOpen = string (codes "notOpen")
answer_tree (Settled closed moved version) = settled_tree closed moved version

-- the object of a row, whose answer is this tree
abbrev pub row_object : Actor → ℕ → ℕ → Op → Data → Data
row_object actor at step op answer = object
    (member (codes "actor") (string (actor_text actor))
    (member (codes "answer") answer
    (member (codes "at") (number_tree at)
    (member (codes "op") (string (op_text op))
    (member (codes "step") (number_tree step) no_members)))))

-- a row
abbrev pub row_tree : Row → Data
row_tree row = row_object row.actor row.at row.step row.op (answer_tree row.answer)

-- the row of an entry: it has the event's word, and not the event
abbrev pub entry_row : Entry → Row
entry_row entry = record { actor = entry.actor; at = entry.at; step = entry.step; op = op_of entry.event; answer = entry.answer }

-- an entry is written as its row
abbrev pub entry_tree : Entry → Data
entry_tree entry = row_tree (entry_row entry)

-- the number of a format
abbrev pub format_number : Format → ℕ
format_number One = 1
format_number Two = 2

-- the first line of a journal
abbrev pub first_tree : Format → ℕ → Data
first_tree format workers =
    object (member (codes "format") (number_tree (format_number format)) (member (codes "workers") (number_tree workers) no_members))

-- the last line of a journal, with the number of its entries
abbrev pub end_tree : ℕ → Data
end_tree entries = object (member (codes "end") (number_tree entries) no_members)

-- a line
unfoldable pub line_text : Data → List ℕ
line_text tree = compact_text tree ++ 10 ∷ []

-- the whole text of a journal
abbrev pub rendering_of : Format → ℕ → List Entry → List ℕ
rendering_of format workers journal =
    line_text (first_tree format workers) ++ flat_map (λ entry. line_text (entry_tree entry)) journal ++ line_text (end_tree (length journal))
