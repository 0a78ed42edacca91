-- What holds of every journal that is a run, so that operators may rely on it.
-- This project's own; each law speaks of the journal, by the rules of its format, and the worlds that it leads through.
use Rattle.std.specs.Prelude.{ℕ, ◌≡◌, ◌<◌, ◌≤◌, ◌+◌, ◌⊎◌, ◌↔◌, false, if◌then◌else◌, IsTrue, List, [], ◌∷◌, map, filter, filter_map, take, drop, All, Contains, Option, Some, None, slice_get}
use Rattle.std.specs.List.{list_any, list_all, zip}
use Rattle.std.specs.List.Sorted.{IsStrictlyIncreasing}
use Rattle.std.specs.Option.{option_or}
use Rattle.ev_types.specs.Items.{ItemParts, ResponseParts}
use Rattle.ev_types.specs.declared.contents.Kind.{Kind}
use Rattle.ev_types.specs.declared.contents.Kind.TheVariants.{Cds, Eds, Lds, Rds, Sds, Ecds}
use Rattle.ev_types.specs.declared.contents.Body.{Body}
use Rattle.ev_types.specs.declared.contents.Body.TheVariants.{Good}
use Rattle.ev_types.specs.declared.contents.Request.{Request}
use Rattle.ev_types.specs.declared.events.Actor.{Actor}
use Rattle.ev_types.specs.declared.events.Actor.TheVariants.{Worker}
use Rattle.ev_types.specs.declared.events.Event.TheVariants.{Response, DrainTimeout, Publish, Reap}
use Rattle.ev_types.specs.declared.events.Answer.TheVariants.{Done, Replied, Settled}
use Rattle.ev_types.specs.declared.listeners.FilterChain.{FilterChain}
use Rattle.ev_types.specs.declared.origins.Origin.{Origin}
use Rattle.ev_types.specs.declared.journals.Format.{Format}
use Rattle.ev_types.specs.declared.journals.Format.TheVariants.{Two}
use Rattle.ev_types.specs.declared.events.Verdict.{Verdict}
use Rattle.ev_types.specs.declared.events.Verdict.TheVariants.{New, InPlace, Back, Same, Kept, Unasked, Renewed, Refused}
use Rattle.ev_types.specs.declared.events.Entry.{Entry}
use Rattle.ev_types.specs.declared.rows.GenRow.{GenRow}
use Rattle.ev_types.specs.declared.rows.KeptVersion.{KeptVersion}
use Rattle.ev_types.specs.declared.rows.Live.{Live}
use Rattle.ev_types.specs.declared.rows.RowStatus.{RowStatus}
use Rattle.ev_types.specs.declared.rows.RowStatus.TheVariants.{Active, Draining}
use Rattle.ev_model.specs.declared.pictures.ServedListener.{ServedListener}
use Rattle.ev_model.specs.declared.pictures.Shown.{Shown}
use Rattle.ev_model.specs.World.{World, OpenMember, last_version}
use Rattle.ev_model.specs.Origins.{PlacedChain, placed_in, origin_at}
use Rattle.ev_model.specs.Connections.{shows_chain, is_chain_shown}
use Rattle.ev_model.specs.Dead.{is_open_on, last_picture}
use Rattle.ev_model.specs.Live.{lives_of}
use Rattle.ev_model.specs.Versions.{is_version_of}
use Rattle.ev_model.specs.Verdicts.{rule_of, is_taken, verdict_of, lives_after, lives_left}
use Rattle.ev_model.specs.Requests.{refusal_text, message_of}
use Rattle.ev_model.specs.Watching.{dependencies_of, is_watched}
use Rattle.ev_model.specs.Warming.{is_ready, value_of}
use Rattle.ev_model.specs.Rows.{is_row_of}
use Rattle.ev_model.specs.Picture.{has_number, is_shown}
use Rattle.ev_model.specs.Runs.{world_at, IsRun}
use Rattle.ev_model.specs.Entries.{MadeRow, made_of, names_row, has_ended_wait, is_accept, version_settled_by, last_settled, version_published, numbers_reaped, connection_of, releases}

-- a journal, with its format, and the workers and the node of its machine
pub record Told : Type 0 where
  pub format : Format
  pub workers : ℕ
  pub node : List ℕ
  pub journal : List Entry

-- the world after the first k entries
abbrev pub world_told : Told → ℕ → World
world_told told k = world_at told.format told.workers told.node told.journal k

-- the entry is at place k, from 0
abbrev pub IsEntryAt : Told → ℕ → Entry → Type 0
IsEntryAt told k entry = slice_get told.journal k ≡ Some entry

-- the generation of this number serves in the world, and is ready there
pub record IsServing (world : World) (number : ℕ) : Type 0 where
  pub row : GenRow
  pub among : Contains world.rows row
  pub numbered : row.number ≡ number
  pub active : row.status ≡ Active
  pub ready : IsTrue (is_ready world row)

-- the generation of this number was made, and each of its waits was ended by an entry not after place q:
-- for what has to come anew, by one since it was made
pub record WasAnswered (told : Told) (number q : ℕ) : Type 0 where
  pub row : MadeRow
  pub made : made_of told.journal number ≡ Some row
  pub answered : IsTrue (list_all (has_ended_wait number (take (q + 1) told.journal)) (dependencies_of row.content))

-- it served and was ready after some entry before place p
pub record HadWarmed (told : Told) (number p : ℕ) : Type 0 where
  pub place : ℕ
  pub earlier : place < p
  pub serving : IsServing (world_told told (place + 1)) number
  pub answered : WasAnswered told number place

-- it had warmed before the picture of this version was published, at some place before k
pub record WasWarm (told : Told) (number version k : ℕ) : Type 0 where
  pub place : ℕ
  pub earlier : place < k
  pub entry : Entry
  pub there : IsEntryAt told place entry
  pub publication : entry.event ≡ Publish
  pub published : version_published entry.answer ≡ Some version
  pub warmed : HadWarmed told number place

-- the accept at place k is of this worker, and its answer names the generation
pub record Accepts (told : Told) (k : ℕ) (worker : Actor) (number : ℕ) : Type 0 where
  pub entry : Entry
  pub there : IsEntryAt told k entry
  pub accept : IsTrue (is_accept entry.event)
  pub by : entry.actor ≡ worker
  pub names : IsTrue (names_row number entry.answer)

-- connections go only to warmed generations: what an accept names had warmed before the picture
-- that its worker holds was published
abbrev pub Warmed : Told → Type 0
Warmed told =
    (k : ℕ) (worker : Actor) (number : ℕ) → Accepts told k worker number → WasWarm told number (last_settled (take k told.journal) worker) k

-- at place k the actor settles on the version
pub record SettlesOn (told : Told) (k : ℕ) (actor : Actor) (version : ℕ) : Type 0 where
  pub entry : Entry
  pub there : IsEntryAt told k entry
  pub settled : version_settled_by actor entry ≡ Some version

-- no worker's snapshot goes back: of two settles of an actor the later has no smaller version
abbrev pub Forward : Told → Type 0
Forward told =
    (j k : ℕ) (actor : Actor) (version next : ℕ) → j < k → SettlesOn told j actor version → SettlesOn told k actor next → version ≤ next

-- the accept at place j named the generation, for this connection of the actor
pub record Opened (told : Told) (j : ℕ) (actor : Actor) (number connection : ℕ) : Type 0 where
  pub entry : Entry
  pub there : IsEntryAt told j entry
  pub by : entry.actor ≡ actor
  pub names : IsTrue (names_row number entry.answer)
  pub of : connection_of entry.event ≡ Some connection

-- by an entry between the places j and k the actor's connection was closed, or moved on
abbrev pub IsReleasedBetween : Told → ℕ → ℕ → Actor → ℕ → Type 0
IsReleasedBetween told j k actor connection = IsTrue (list_any (releases actor connection) (drop (j + 1) (take k told.journal)))

-- each connection that an accept before place k opened on the generation was closed between, or moved on
abbrev pub IsReleasedBefore : Told → ℕ → ℕ → Type 0
IsReleasedBefore told number k =
    (j : ℕ) (actor : Actor) (connection : ℕ) → j < k → Opened told j actor number connection → IsReleasedBetween told j k actor connection

-- the picture of this version was published, and doesn't show the generation
pub record IsHidden (world : World) (version number : ℕ) : Type 0 where
  pub shown : Shown
  pub there : slice_get world.pictures version ≡ Some shown
  pub hidden : is_shown number shown ≡ false

-- no picture that a worker has settled on last shows the generation, and neither does the last picture
pub record IsUnseen (told : Told) (number k : ℕ) : Type 0 where
  pub held : (worker : ℕ) → worker < told.workers → IsHidden (world_told told k) (last_settled (take k told.journal) (Worker worker)) number
  pub last : IsHidden (world_told told k) (last_version (world_told told k)) number

-- a generation is destroyed only when no connection is open on it,
-- those that it had were closed or moved on, and no worker's snapshot holds it
pub record IsUnused (told : Told) (number k : ℕ) : Type 0 where
  pub released : IsReleasedBefore told number k
  pub free : list_any (is_open_on number) (world_told told k).opened ≡ false
  pub unseen : IsUnseen told number k

-- the entry at place k is a reaping that destroys the generation
pub record Reaps (told : Told) (k number : ℕ) : Type 0 where
  pub entry : Entry
  pub there : IsEntryAt told k entry
  pub reaping : entry.event ≡ Reap
  pub names : IsTrue (has_number number (numbers_reaped entry.answer))

-- what a reaping names is unused
abbrev pub Unused : Told → Type 0
Unused told = (k number : ℕ) → Reaps told k number → IsUnused told number k

-- the entry at place k neither destroys the generation again, nor accepts a connection on it,
-- nor publishes a picture that shows it
pub record IsGone (told : Told) (number k : ℕ) (entry : Entry) : Type 0 where
  pub reaped : has_number number (numbers_reaped entry.answer) ≡ false
  pub accepted : names_row number entry.answer ≡ false
  pub published : (version : ℕ) → version_published entry.answer ≡ Some version → IsHidden (world_told told (k + 1)) version number

-- a generation is destroyed once: a reaping names each once, and no later entry has it
pub record Once (told : Told) : Type 0 where
  pub ascending : (k : ℕ) (entry : Entry) → IsEntryAt told k entry → IsStrictlyIncreasing (numbers_reaped entry.answer)
  pub after : (j k number : ℕ) (later : Entry) → j < k → Reaps told j number → IsEntryAt told k later → IsGone told number k later

-- the generations of a name
abbrev pub rows_named : World → Kind → List ℕ → List GenRow
rows_named world kind name = filter (is_row_of kind name) world.rows

-- the version of a name
abbrev pub versions_named : World → Kind → List ℕ → List KeptVersion
versions_named world kind name = filter (is_version_of kind name) world.versions

-- the generations and the version of the name are as they were
pub record KeepsRows (before after : World) (kind : Kind) (name : List ℕ) : Type 0 where
  pub rows : rows_named after kind name ≡ rows_named before kind name
  pub version : versions_named after kind name ≡ versions_named before kind name

-- the value and the version of the name are as they were
pub record KeepsValue (before after : World) (kind : Kind) (name : List ℕ) : Type 0 where
  pub value : value_of after kind name ≡ value_of before kind name
  pub version : versions_named after kind name ≡ versions_named before kind name

-- what a refusal leaves: a cluster's or listener's generations and version;
-- a name's value and version, or it isn't watched any more
abbrev pub Keeps : World → World → Kind → List ℕ → Type 0
Keeps before after Cds name = KeepsRows before after Cds name
Keeps before after Eds name = KeepsValue before after Eds name ⊎ (is_watched (lives_of after) Eds name ≡ false)
Keeps before after Lds name = KeepsRows before after Lds name
Keeps before after Rds name = KeepsValue before after Rds name ⊎ (is_watched (lives_of after) Rds name ≡ false)
Keeps before after Sds name = KeepsValue before after Sds name ⊎ (is_watched (lives_of after) Sds name ≡ false)
Keeps before after Ecds name = KeepsValue before after Ecds name ⊎ (is_watched (lives_of after) Ecds name ≡ false)

-- the resource at this place of the response is refused
pub record IsRefusedAt (response : ResponseParts) (verdicts : List Verdict) (place : ℕ) (item : ItemParts) : Type 0 where
  pub rule : ℕ
  pub refused : slice_get verdicts place ≡ Some (Refused rule)
  pub there : slice_get response.items place ≡ Some item

-- the entry at place k is a response of this kind, replied to with these verdicts
pub record IsReplied (told : Told) (k : ℕ) (kind : Kind) (response : ResponseParts) (verdicts : List Verdict) : Type 0 where
  pub entry : Entry
  pub there : IsEntryAt told k entry
  pub event : entry.event ≡ Response response
  pub requests : List Request
  pub answer : entry.answer ≡ Replied requests verdicts
  pub typed : response.kind ≡ Some kind

-- a refused update takes nothing away
abbrev pub Stays : Told → Type 0
Stays told =
    (k : ℕ) (kind : Kind) (response : ResponseParts) (verdicts : List Verdict) (place : ℕ) (item : ItemParts)
    → IsReplied told k kind response verdicts → IsRefusedAt response verdicts place item
    → Keeps (world_told told k) (world_told told (k + 1)) kind item.name

-- 15: it is a listener, and a live row of another name has its address
abbrev pub taken_rule : Kind → List Live → List ℕ → Body → Option ℕ
taken_rule Lds lives name (Good content) = if is_taken lives name content then Some 15 else None
taken_rule kind lives name body = None

-- the written rule that a resource breaks: the least, and the taken address only where it breaks no other
abbrev pub broken_rule : Kind → ResponseParts → List KeptVersion → List Live → ItemParts → Option ℕ
broken_rule kind response versions lives item =
    option_or (rule_of kind response lives versions item) (taken_rule kind lives item.name item.body)

-- the rules that these resources break, one after another, each over the live rows that those before it leave
abbrev pub rules_from : Kind → ResponseParts → List KeptVersion → List Live → List ItemParts → List (Option ℕ)
rules_from kind response versions lives [] = []
rules_from kind response versions lives (item ∷ items) =
    let left = lives_after kind (verdict_of kind response lives versions item) item.name item.body lives in
    broken_rule kind response versions lives item ∷ rules_from kind response versions left items

-- of each resource of a response the written rule that it breaks, if any, at the world before it
abbrev pub rules_broken : World → Kind → ResponseParts → List (Option ℕ)
rules_broken world kind response =
    rules_from kind response world.versions (lives_left kind response (lives_of world)) response.items

-- what is said of a resource that breaks this rule
abbrev pub complaint_of : Option ℕ → List ℕ → Option (List ℕ)
complaint_of None name = None
complaint_of (Some rule) name = Some (refusal_text name rule)

-- what is said of the resources that break a rule, in order
abbrev pub complaints : List (Option ℕ) → List ItemParts → List (List ℕ)
complaints rules items = filter_map (λ (one : Option ℕ × ItemParts). complaint_of one.0 one.1.name) (zip rules items)

-- the rule that a resource with this verdict was refused by
abbrev pub refused_by : Verdict → Option ℕ
refused_by New = None
refused_by InPlace = None
refused_by Back = None
refused_by Same = None
refused_by Kept = None
refused_by Unasked = None
refused_by Renewed = None
refused_by (Refused rule) = Some rule

-- the first request carries the response's nonce, has no error exactly where no resource breaks
-- a written rule, and names those that break one, in order; they alone are refused
pub record IsRepliedByRules (world : World) (kind : Kind) (response : ResponseParts) (requests : List Request) (verdicts : List Verdict) : Type 0 where
  pub reply : Request
  pub first : slice_get requests 0 ≡ Some reply
  pub typed : reply.kind ≡ kind
  pub nonce : reply.nonce ≡ Some response.nonce
  pub acknowledged : (reply.error ≡ None) ↔ All (λ (rule : Option ℕ). rule ≡ None) (rules_broken world kind response)
  pub named : reply.error ≡ message_of (complaints (rules_broken world kind response) response.items)
  pub refused : map refused_by verdicts ≡ rules_broken world kind response

-- a response is acknowledged exactly where all its resources meet the written rules
abbrev pub Acknowledged : Told → Type 0
Acknowledged told =
    (k : ℕ) (kind : Kind) (response : ResponseParts) (verdicts : List Verdict) (replied : IsReplied told k kind response verdicts)
    → IsRepliedByRules (world_told told k) kind response replied.requests verdicts

-- after the first k entries the generation is one of this kind, name and status
pub record StandsAt (told : Told) (k number : ℕ) (kind : Kind) (name : List ℕ) (status : RowStatus) : Type 0 where
  pub row : GenRow
  pub among : Contains (world_told told k).rows row
  pub numbered : row.number ≡ number
  pub of_kind : row.kind ≡ kind
  pub named : row.name ≡ name
  pub stands : row.status ≡ status

-- between the places j and k there is a drain timeout of the name that was done
pub record DrainsBetween (told : Told) (j k : ℕ) (name : List ℕ) : Type 0 where
  pub place : ℕ
  pub from : j ≤ place
  pub before : place < k
  pub entry : Entry
  pub there : IsEntryAt told place entry
  pub event : entry.event ≡ DrainTimeout name
  pub done : entry.answer ≡ Done

-- the listener's drain timeout passed before place k, when it was draining already
pub record HasWaited (told : Told) (number : ℕ) (name : List ℕ) (k : ℕ) : Type 0 where
  pub place : ℕ
  pub draining : StandsAt told place number Lds name Draining
  pub drained : DrainsBetween told place k name

-- in format 2 a listener that has served is destroyed only when its drain timeout has come
abbrev pub Waited : Told → Type 0
Waited told =
    (j k number : ℕ) (name : List ℕ) → told.format ≡ Two → j ≤ k → StandsAt told j number Lds name Active → Reaps told k number
    → HasWaited told number name k

-- the entry at place k is a settle of this worker that closes and moves these connections,
-- and the connection was open before it
pub record SettlesWith (told : Told) (k : ℕ) (member : OpenMember) (closed moved : List ℕ) : Type 0 where
  pub entry : Entry
  pub there : IsEntryAt told k entry
  pub by : entry.actor ≡ Worker member.worker
  pub version : ℕ
  pub answer : entry.answer ≡ Settled closed moved version
  pub among : Contains (world_told told k).opened member

-- the last picture shows the listener
abbrev pub IsShownNow : World → ServedListener → Type 0
IsShownNow world listener = Contains (last_picture world).shown.listeners listener

-- a settle closes a connection whose chain was found only where its listener's drain timeout had passed
-- and no listener that the last picture shows has its chain
abbrev pub ClosesDrained : Told → Type 0
ClosesDrained told =
    (k : ℕ) (member : OpenMember) (closed moved : List ℕ) → SettlesWith told k member closed moved → IsTrue (has_number member.connection closed)
    → IsTrue (has_number member.listener (world_told told k).expired)
    × (is_chain_shown member.origin (last_picture (world_told told k)).shown ≡ false)

-- where a listener of the last picture has its chain, the connection is open afterwards, on that listener
abbrev pub ChainsStay : Told → Type 0
ChainsStay told =
    (k : ℕ) (member : OpenMember) (closed moved : List ℕ) (listener : ServedListener) → SettlesWith told k member closed moved
    → IsShownNow (world_told told k) listener → IsTrue (shows_chain member.origin listener)
    → (has_number member.connection closed ≡ false)
    × Contains (world_told told (k + 1)).opened (record member { listener = listener.number })

-- after the first k entries a generation has this chain, of this origin
pub record HasChain (told : Told) (k : ℕ) (origin : Origin) (chain : FilterChain) : Type 0 where
  pub row : GenRow
  pub among : Contains (world_told told k).rows row
  pub placed : PlacedChain
  pub there : Contains (placed_in row.content) placed
  pub begins : origin_at row.number row.kept placed.place ≡ origin
  pub same : placed.chain ≡ chain

-- two chains of one origin have equal bodies: so a connection that moves stays on the chain that accepted it
abbrev pub BodiesStay : Told → Type 0
BodiesStay told =
    (j k : ℕ) (origin : Origin) (chain other : FilterChain) → HasChain told j origin chain → HasChain told k origin other
    → chain.body_text ≡ other.body_text

-- a chain that stays keeps its connections
pub record KeepsConnections (told : Told) : Type 0 where
  pub closes : ClosesDrained told
  pub stays : ChainsStay told

-- all nine
pub record Laws (told : Told) : Type 0 where
  pub warmed : Warmed told
  pub forward : Forward told
  pub unused : Unused told
  pub once : Once told
  pub stays : Stays told
  pub acknowledged : Acknowledged told
  pub waited : Waited told
  pub connections : KeepsConnections told
  pub bodies : BodiesStay told

-- every run has the laws
abbrev pub RunsHaveLaws : Type 0
RunsHaveLaws =
    (format : Format) (workers : ℕ) (node : List ℕ) (journal : List Entry) → IsRun format workers node journal
    → Laws record { format = format; workers = workers; node = node; journal = journal }
