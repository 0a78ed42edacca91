-- What every event of a run keeps, and the opening has: the parts from which the laws of runs follow.
-- This project's own. Some speak of one world, and some of a journal's first entries,
-- since they tell how that world came about.
use Rattle.std.specs.Prelude.{ℕ, zero, suc, ◌≡◌, ◌≤◌, ◌<◌, ◌⊎◌, Bool, true, false, not, ◌&&◌, ◌==◌, if◌then◌else◌, IsTrue, List, length, take, Contains, All, Option, Some}
use Rattle.std.specs.List.{list_any, flat_map}
use Rattle.ev_types.specs.declared.contents.Kind.{Kind}
use Rattle.ev_types.specs.declared.contents.Kind.TheVariants.{Cds, Lds}
use Rattle.ev_types.specs.declared.origins.Origin.{Origin}
use Rattle.ev_types.specs.declared.rows.KeptVersion.{KeptVersion}
use Rattle.ev_types.specs.declared.rows.RowStatus.{RowStatus}
use Rattle.ev_types.specs.declared.rows.RowStatus.TheVariants.{Warming, Active, Draining, Dropped}
use Rattle.ev_types.specs.declared.rows.GenRow.{GenRow}
use Rattle.ev_types.specs.declared.events.Actor.{Actor}
use Rattle.ev_types.specs.declared.events.Actor.TheVariants.{Worker}
use Rattle.ev_types.specs.declared.events.Entry.{Entry}
use Rattle.ev_types.specs.Kinds.{is_by_name}
use Rattle.ev_model.specs.declared.pictures.ServedCluster.{ServedCluster}
use Rattle.ev_model.specs.declared.pictures.ServedListener.{ServedListener}
use Rattle.ev_model.specs.declared.pictures.Shown.{Shown}
use Rattle.ev_model.specs.World.{World, Arrived, OpenMember}
use Rattle.ev_model.specs.Origins.{PlacedChain, placed_in, origin_at}
use Rattle.ev_model.specs.Connections.{shows_chain}
use Rattle.ev_model.specs.Picture.{has_number, is_shown, numbers_shown}
use Rattle.ev_model.specs.Live.{lives_of}
use Rattle.ev_model.specs.Watching.{is_watched}
use Rattle.ev_model.specs.Warming.{is_word, is_timeout, is_told}
use Rattle.ev_model.specs.Dead.{shown_at, version_held, is_open_on, is_in_use, is_in_use_by}
use Rattle.ev_model.specs.Operations.{actor_same}
use Rattle.ev_model.specs.Tidy.{is_due}
use Rattle.ev_model.specs.Entries.{MadeRow, made_rows, made_of, entries_since, tells_of_name, times_out, last_settled, numbers_reaped}
use Rattle.ev_model.specs.Laws.{Told, world_told, HadWarmed, WasWarm, Opened, IsReleasedBetween, StandsAt, HasWaited}
use Rattle.ev_model_laws.specs.Numbers.{IsNumbered}

-- it serves, or drains since it has served
abbrev pub has_served : RowStatus → Bool
has_served Warming = false
has_served Active = true
has_served Draining = true
has_served Dropped = false

-- the row is of this number, and has served
abbrev pub has_served_as : ℕ → GenRow → Bool
has_served_as number row = (row.number == number) && has_served row.status

-- what a picture in use shows, or a connection is open on, is a generation that has served
abbrev pub UsesServed : World → Type 0
UsesServed world = (number : ℕ) → IsTrue (is_in_use world number) → IsTrue (list_any (has_served_as number) world.rows)

-- the numbers of the generations that all pictures so far show
abbrev pub numbers_published : World → List ℕ
numbers_published world = flat_map numbers_shown world.pictures

-- a picture so far shows the generation of this number, or a connection is open on it
abbrev pub is_seen : World → ℕ → Bool
is_seen world number = is_in_use_by (numbers_published world) world.opened number

-- the row is of this number, and warms or was dropped
abbrev pub is_unserved_as : ℕ → GenRow → Bool
is_unserved_as number row = (row.number == number) && not (has_served row.status)

-- a generation that warms, or was dropped, is in no picture and has no connection
abbrev pub HidesUnserved : World → Type 0
HidesUnserved world = (number : ℕ) → IsTrue (is_seen world number) → list_any (is_unserved_as number) world.rows ≡ false

-- each worker holds the version of a picture that was published
abbrev pub HoldsPublished : World → Type 0
HoldsPublished world = (worker : ℕ) → version_held world worker < length world.pictures

-- no generation that warms is ready: what was due serves
abbrev pub NothingIsDue : World → Type 0
NothingIsDue world = (row : GenRow) → Contains world.rows row → is_due world.arrivals world.results row ≡ false

-- the numbers that reapings among these entries have named
abbrev pub numbers_gone : List Entry → List ℕ
numbers_gone entries = flat_map (λ (entry : Entry). numbers_reaped entry.answer) entries

-- all numbers that rows have, pictures show and reapings have named were allocated;
-- no two rows share one, and none that was reaped is a row's
pub record DrawnOnce (world : World) (gone : List ℕ) : Type 0 where
  pub rows : IsNumbered world
  pub shown : (number : ℕ) → IsTrue (has_number number (numbers_published world)) → number ≤ world.made
  pub reaped : (number : ℕ) → IsTrue (has_number number gone) → number ≤ world.made
  pub away : (number : ℕ) → IsTrue (has_number number gone) → list_any (λ (row : GenRow). row.number == number) world.rows ≡ false

-- it is so after the first k entries, with what these have reaped
abbrev pub NumbersAreDrawnOnce : Told → ℕ → Type 0
NumbersAreDrawnOnce told k = DrawnOnce (world_told told k) (numbers_gone (take k told.journal))

-- after the first k entries each worker holds the version on which it has settled last, or 0
abbrev pub HoldsSettled : Told → ℕ → Type 0
HoldsSettled told k =
    (worker : ℕ) → worker < told.workers → version_held (world_told told k) worker ≡ last_settled (take k told.journal) (Worker worker)

-- the actor's connection of this number is open on the generation
abbrev pub is_open_for : Actor → ℕ → ℕ → OpenMember → Bool
is_open_for actor connection number member =
    actor_same actor (Worker member.worker) && (member.connection == connection) && is_open_on number member

-- a connection that an accept before place k opened on a generation is open on it, or was closed or moved on between
abbrev pub StaysOpen : Told → ℕ → Type 0
StaysOpen told k =
    (j : ℕ) (actor : Actor) (number connection : ℕ) → j < k → Opened told j actor number connection
    → IsReleasedBetween told j k actor connection ⊎ IsTrue (list_any (is_open_for actor connection number) (world_told told k).opened)

-- after the first k entries the generation is a draining listener,
-- and its drain timeout came when it was draining already
pub record HasExpired (told : Told) (number k : ℕ) : Type 0 where
  pub name : List ℕ
  pub draining : StandsAt told k number Lds name Draining
  pub waited : HasWaited told number name k

-- each number that is marked as expired is one of a draining listener whose drain timeout came
abbrev pub ExpiresDraining : Told → ℕ → Type 0
ExpiresDraining told k = (number : ℕ) → IsTrue (has_number number (world_told told k).expired) → HasExpired told number k

-- the generation as its resource made it
abbrev pub made_as : GenRow → MadeRow
made_as row = record { kind = row.kind; name = row.name; content = row.content }

-- the generation of this number was made as one of this kind and name, by what was made
pub record IsMadeAs (made : ℕ → Option MadeRow) (kind : Kind) (name : List ℕ) (number : ℕ) : Type 0 where
  pub row : MadeRow
  pub is : made number ≡ Some row
  pub of_kind : row.kind ≡ kind
  pub named : row.name ≡ name

-- the generation of an origin was made as one of this kind and name, and has a chain with this body at that place
pub record BeginsAs (made : ℕ → Option MadeRow) (kind : Kind) (name : List ℕ) (origin : Origin) (body : List ℕ) : Type 0 where
  pub generation : IsMadeAs made kind name origin.listener
  pub placed : PlacedChain
  pub there : Contains (placed_in generation.row.content) placed
  pub at : placed.place ≡ origin.place
  pub same : placed.chain.body_text ≡ body

-- each chain of a row began with a generation of its kind and name, by a chain with the same body
abbrev pub BeginChains : (ℕ → Option MadeRow) → GenRow → Type 0
BeginChains made row =
    (placed : PlacedChain) → Contains (placed_in row.content) placed
    → BeginsAs made row.kind row.name (origin_at row.number row.kept placed.place) placed.chain.body_text

-- each generation has the kind, name and content that the resource of its number brought,
-- and its chains began with generations of its name; as many were made as numbers were allocated
pub record AreMade (world : World) (entries : List Entry) : Type 0 where
  pub rows : All (λ (row : GenRow). made_of entries row.number ≡ Some (made_as row)) world.rows
  pub chains : All (BeginChains (made_of entries)) world.rows
  pub drawn : length (made_rows entries) ≡ world.made

-- a listener that is shown was made under its name, and so was each generation with which one of its chains began
pub record IsListenerMade (made : ℕ → Option MadeRow) (listener : ServedListener) : Type 0 where
  pub own : IsMadeAs made Lds listener.name listener.number
  pub chains : (origin : Origin) → IsTrue (shows_chain (Some origin) listener) → IsMadeAs made Lds listener.name origin.listener

-- two listeners of one name that are shown are one generation
abbrev pub ShowsOneAName : Shown → Type 0
ShowsOneAName shown =
    (listener other : ServedListener) → Contains shown.listeners listener → Contains shown.listeners other
    → listener.name ≡ other.name → listener.number ≡ other.number

-- what a picture shows was made as such, and of a name it shows one listener
pub record IsShownMade (made : ℕ → Option MadeRow) (shown : Shown) : Type 0 where
  pub clusters : All (λ (cluster : ServedCluster). IsMadeAs made Cds cluster.name cluster.number) shown.clusters
  pub listeners : All (IsListenerMade made) shown.listeners
  pub single : ShowsOneAName shown

-- a connection's listener, and the one with which its chain began, were made under one name
pub record StaysUnderName (made : ℕ → Option MadeRow) (listener : ℕ) (origin : Origin) : Type 0 where
  pub name : List ℕ
  pub own : IsMadeAs made Lds name listener
  pub first : IsMadeAs made Lds name origin.listener

-- so were those of a connection whose chain was found
abbrev pub IsMemberMade : (ℕ → Option MadeRow) → OpenMember → Type 0
IsMemberMade made member = (origin : Origin) → member.origin ≡ Some origin → StaysUnderName made member.listener origin

-- what pictures show, and what connections are on, was made as such
pub record SeesMade (world : World) (made : ℕ → Option MadeRow) : Type 0 where
  pub pictures : All (IsShownMade made) world.pictures
  pub opened : All (IsMemberMade made) world.opened

-- no worker has two open connections of one number
abbrev pub OpensOnce : World → Type 0
OpensOnce world =
    (member other : OpenMember) → Contains world.opened member → Contains world.opened other
    → member.worker ≡ other.worker → member.connection ≡ other.connection → member ≡ other

-- one of these entries has reported the name: by a resource that was kept or refused, or by its removal
abbrev pub was_told : List Entry → Kind → List ℕ → Bool
was_told entries kind name = list_any (λ (entry : Entry). tells_of_name kind name entry.event entry.answer) entries

-- by one of these entries the wait for the name timed out
abbrev pub was_timed : List Entry → Kind → List ℕ → Bool
was_timed entries kind name = list_any (λ (entry : Entry). times_out kind name entry.event entry.answer) entries

-- those of these entries that come after the one that made the generation of this number; numbers begin at 1
abbrev pub entries_after : ℕ → List Entry → List Entry
entries_after zero entries = entries
entries_after (suc place) entries = entries_since (suc place) entries

-- one of these entries is why it came: after the last generation was made that stood by then,
-- it has told of the name or, where a timeout came, was that;
-- the end of a time to live comes of a name that an entry has told of
abbrev pub has_come_by : List Entry → Arrived → Bool
has_come_by entries a =
    if is_word a.arrival
    then was_told (entries_after a.made entries) a.kind a.name
    else (if is_timeout a.arrival
    then was_timed (entries_after a.made entries) a.kind a.name
    else was_told entries a.kind a.name)

-- all that came for names was said by the control plane or timed out,
-- or is the end of what it has said; and a version of endpoints or routes is kept only of a name that was told of
pub record ComesByEntries (world : World) (entries : List Entry) : Type 0 where
  pub arrivals : All (λ (a : Arrived). IsTrue (has_come_by entries a)) world.arrivals
  pub versions : All (λ (kept : KeptVersion). is_by_name kept.kind ≡ true → IsTrue (was_told entries kept.kind kept.name)) world.versions

-- what was received for names is kept only of names that are watched,
-- and a version of endpoints or routes only of one that was reported
pub record KeepsWatched (world : World) : Type 0 where
  pub arrivals : All (λ (a : Arrived). IsTrue (is_watched (lives_of world) a.kind a.name)) world.arrivals
  pub versions : All (λ (kept : KeptVersion). is_by_name kept.kind ≡ true → IsTrue (is_told world kept.kind kept.name)) world.versions

-- after the first k entries each generation that serves had warmed
abbrev pub ServesWarmed : Told → ℕ → Type 0
ServesWarmed told k = (row : GenRow) → Contains (world_told told k).rows row → row.status ≡ Active → HadWarmed told row.number k

-- after the first k entries what each picture so far shows had warmed before its publication
abbrev pub ShowsWarmed : Told → ℕ → Type 0
ShowsWarmed told k =
    (version number : ℕ) → IsTrue (is_shown number (shown_at (world_told told k) version)) → WasWarm told number version k

-- what every run has after its first k entries
pub record HasParts (told : Told) (k : ℕ) : Type 0 where
  pub workers : length (world_told told k).held ≡ told.workers
  pub uses : UsesServed (world_told told k)
  pub hides : HidesUnserved (world_told told k)
  pub holds : HoldsPublished (world_told told k)
  pub settled : HoldsSettled told k
  pub stays : StaysOpen told k
  pub expires : ExpiresDraining told k
  pub due : NothingIsDue (world_told told k)
  pub drawn : NumbersAreDrawnOnce told k
  pub made : AreMade (world_told told k) (take k told.journal)
  pub come : ComesByEntries (world_told told k) (take k told.journal)
  pub watched : KeepsWatched (world_told told k)
  pub serves : ServesWarmed told k
  pub shows : ShowsWarmed told k
  pub sees : SeesMade (world_told told k) (made_of (take k told.journal))
  pub once : OpensOnce (world_told told k)
