-- The rows that texts are: a text is a row's where it is the text of that row. This project's own.
use Rattle.std.specs.Prelude.{◌≡◌, ◌<◌, ◌≤◌, ◌^◌, ℕ, List, [], ◌∷◌, map, All, IfSome, Bool, true, Option, Some, None, ⊤}
use Rattle.std.specs.List.{list_any}
use Rattle.std.specs.Str.{IsUtf8}
use Rattle.serde_json.specs.Data.{null, boolean, number, string, array, object, Members, member, no_members}
use Rattle.serde_json.specs.Written.{compact_text}
use Rattle.ev_types.specs.Texts.{IsName}
use Rattle.ev_types.specs.Events.{op_same}
use Rattle.ev_types.specs.declared.contents.Request.{Request}
use Rattle.ev_types.specs.declared.events.Actor.{Actor}
use Rattle.ev_types.specs.declared.events.Actor.TheVariants.{Stream, Health as health, Timer, Main, Worker}
use Rattle.ev_types.specs.declared.events.Op.{Op}
use Rattle.ev_types.specs.declared.events.Op.TheVariants.{Connect, Disconnect, Response, Health, FetchTimeout, DrainTimeout, TtlExpired, Publish, Reap, Accept, Close, Settle}
use Rattle.ev_types.specs.declared.events.Verdict.{Verdict}
use Rattle.ev_types.specs.declared.events.Verdict.TheVariants.{New, Same, InPlace, Back, Kept, Unasked, Renewed, Refused}
use Rattle.ev_types.specs.declared.events.Answer.{Answer}
use Rattle.ev_types.specs.declared.events.Answer.TheVariants.{Ignored, Done, Moved, Replied, Version, Unchanged, Reaped, InUse, NoListener, NoChain, On, NotOpen, Settled}
use Rattle.ev_types.specs.declared.origins.ChainPlace.{ChainPlace}
use Rattle.ev_types.specs.declared.origins.ChainPlace.TheVariants.{At, Default}
use Rattle.ev_types.specs.declared.ways.Way.{Way}
use Rattle.ev_types.specs.declared.ways.Way.TheVariants.{Undecided, Elsewhere, NoRoute, Redirect, NoCluster, NoEndpoint, NoSecret, Local, Served}
use Rattle.ev_types.specs.declared.hosts.Host.{Host}
use Rattle.ev_types.specs.declared.journals.Row.{Row}
use Rattle.ev_wire.specs.Requests.{version_members}
use Rattle.ev_journal.specs.Rendering.{row_tree}

-- ---- an answer belongs to these operations alone

abbrev pub operations_with : Answer → List Op
operations_with Ignored = Connect ∷ Disconnect ∷ Response ∷ Health ∷ FetchTimeout ∷ DrainTimeout ∷ TtlExpired ∷ []
operations_with Done = Disconnect ∷ DrainTimeout ∷ Close ∷ []
operations_with (Moved requests) = Connect ∷ Health ∷ FetchTimeout ∷ TtlExpired ∷ []
operations_with (Replied requests verdicts) = Response ∷ []
operations_with (Version version) = Publish ∷ []
operations_with Unchanged = Publish ∷ []
operations_with (Reaped numbers) = Reap ∷ []
operations_with InUse = Accept ∷ []
operations_with NoListener = Accept ∷ []
operations_with NoChain = Accept ∷ []
operations_with (On listener chain way) = Accept ∷ []
operations_with NotOpen = Close ∷ []
operations_with (Settled closed moved version) = Settle ∷ []

-- the operation may be answered so
abbrev pub is_answered_with : Op → Answer → Bool
is_answered_with op answer = list_any (op_same op) (operations_with answer)

-- ---- what the types of a row keep

-- a generation's number
pub record IsGeneration (n : ℕ) : Type 0 where
  pub first : 1 ≤ n
  pub small : n < 2 ^ 32

pub record IsHost (host : Host) : Type 0 where
  pub address : IsName host.address
  pub port : host.port < 2 ^ 16

abbrev pub IsActor : Actor → Type 0
IsActor Stream = ⊤
IsActor health = ⊤
IsActor Timer = ⊤
IsActor Main = ⊤
IsActor (Worker worker) = worker < 2 ^ 32

abbrev pub IsVerdict : Verdict → Type 0
IsVerdict New = ⊤
IsVerdict Same = ⊤
IsVerdict InPlace = ⊤
IsVerdict Back = ⊤
IsVerdict Kept = ⊤
IsVerdict Unasked = ⊤
IsVerdict Renewed = ⊤
IsVerdict (Refused rule) = rule < 2 ^ 8

pub record IsRequest (request : Request) : Type 0 where
  pub subscribed : All IsName request.subscribe
  pub unsubscribed : All IsName request.unsubscribe
  pub held : All (λ (version : List ℕ × List ℕ). IsName version.0) request.versions

-- a chain's place: a number of 32 bits, or the default chain
abbrev pub IsPlace : ChainPlace → Type 0
IsPlace (At place) = place < 2 ^ 32
IsPlace Default = ⊤

abbrev pub IsWay : Way Host → Type 0
IsWay Undecided = ⊤
IsWay (Elsewhere cluster) = IfSome cluster IsGeneration
IsWay NoRoute = ⊤
IsWay Redirect = ⊤
IsWay NoCluster = ⊤
IsWay NoEndpoint = ⊤
IsWay (NoSecret cluster) = IfSome cluster IsGeneration
IsWay (Local status) = status < 2 ^ 16
IsWay (Served cluster host) = IsGeneration cluster × IsHost host

-- numbers of connections
abbrev pub AreConnections : List ℕ → Type 0
AreConnections numbers = All (λ (n : ℕ). n < 2 ^ 64) numbers

abbrev pub IsAnswer : Answer → Type 0
IsAnswer Ignored = ⊤
IsAnswer Done = ⊤
IsAnswer (Moved requests) = All IsRequest requests
IsAnswer (Replied requests verdicts) = All IsRequest requests × All IsVerdict verdicts
IsAnswer (Version version) = version < 2 ^ 64
IsAnswer Unchanged = ⊤
IsAnswer (Reaped numbers) = All IsGeneration numbers
IsAnswer InUse = ⊤
IsAnswer NoListener = ⊤
IsAnswer NoChain = ⊤
IsAnswer (On listener chain way) = IsGeneration listener × IfSome chain IsPlace × IsWay way
IsAnswer NotOpen = ⊤
IsAnswer (Settled closed moved version) = AreConnections closed × AreConnections moved × (version < 2 ^ 64)

-- ---- rows and their texts

-- a row's line without its line feed
unfoldable pub row_text : Row → List ℕ
row_text row = compact_text (row_tree row)

-- a row, whose answer its operation may have
pub record IsRow (row : Row) : Type 0 where
  pub actor : IsActor row.actor
  pub at : row.at < 2 ^ 32
  pub step : row.step < 2 ^ 32
  pub answer : IsAnswer row.answer
  pub answered : is_answered_with row.op row.answer ≡ true
  -- its texts are UTF-8, so its line is
  pub utf8 : IsUtf8 (row_text row)

-- a verdict's rule is within its bounds
pub record KeepsRule (verdict : Verdict) : Type 0 where
  pub rule : IsVerdict verdict

-- a row's parts are within the bounds of their types, and its line is UTF-8
pub record KeepsBounds (row : Row) : Type 0 where
  pub actor : IsActor row.actor
  pub at : row.at < 2 ^ 32
  pub step : row.step < 2 ^ 32
  pub answer : IsAnswer row.answer
  pub utf8 : IsUtf8 (row_text row)

-- ---- of several rows with one text, one

-- none in place of an empty nonce
abbrev pub chosen_nonce : Option (List ℕ) → Option (List ℕ)
chosen_nonce None = None
chosen_nonce (Some []) = None
chosen_nonce (Some (byte ∷ bytes)) = Some (byte ∷ bytes)

-- the members that are texts, with their names
abbrev pub text_members : Members → List (List ℕ × List ℕ)
text_members no_members = []
text_members (member name null others) = text_members others
text_members (member name (boolean b) others) = text_members others
text_members (member name (number n) others) = text_members others
text_members (member name (string text) others) = (name, text) ∷ text_members others
text_members (member name (array items) others) = text_members others
text_members (member name (object inner) others) = text_members others

-- the versions as their object has them: sorted by name, each name once, with the last version that is given for it
abbrev pub chosen_versions : List (List ℕ × List ℕ) → List (List ℕ × List ℕ)
chosen_versions versions = text_members (version_members versions no_members)

abbrev pub chosen_request : Request → Request
chosen_request request = record {
  kind = request.kind;
  node = request.node;
  subscribe = request.subscribe;
  unsubscribe = request.unsubscribe;
  versions = chosen_versions request.versions;
  nonce = chosen_nonce request.nonce;
  error = request.error;
}

abbrev pub chosen_answer : Answer → Answer
chosen_answer Ignored = Ignored
chosen_answer Done = Done
chosen_answer (Moved requests) = Moved (map chosen_request requests)
chosen_answer (Replied requests verdicts) = Replied (map chosen_request requests) verdicts
chosen_answer (Version version) = Version version
chosen_answer Unchanged = Unchanged
chosen_answer (Reaped numbers) = Reaped numbers
chosen_answer InUse = InUse
chosen_answer NoListener = NoListener
chosen_answer NoChain = NoChain
chosen_answer (On listener chain way) = On listener chain way
chosen_answer NotOpen = NotOpen
chosen_answer (Settled closed moved version) = Settled closed moved version

-- of the rows with the text of this one, the one that is meant:
-- its requests have no empty nonce, and their versions are sorted by name, each name once
abbrev pub chosen_row : Row → Row
chosen_row row = record { actor = row.actor; at = row.at; step = row.step; op = row.op; answer = chosen_answer row.answer }

-- the text is that of a row, which is the one that is meant
pub record IsTextOf (text : List ℕ) (row : Row) : Type 0 where
  pub is_row : IsRow row
  pub chosen : chosen_row row ≡ row
  pub same : row_text row ≡ text
