-- Requests, by what a subscription knows.
use Rattle.std.specs.Prelude.{◌≡◌, ℕ, Bool, List, [], ◌++◌, map, Option, None}
use Rattle.std.specs.List.{flat_map}
use Rattle.ev_types.specs.declared.contents.Kind.{Kind}
use Rattle.ev_types.specs.declared.contents.Request.{Request}
use Rattle.ev_types.specs.declared.rows.KeptVersion.{KeptVersion}
use Rattle.ev_model.specs.Requests.{Watched, clusters_request, connect_requests_by, listeners_asked, names_request, other_than, requests_by, whole_request}
use Rattle.ev_model.specs.Watching.{kinds_before, kinds_behind}
use Rattle.ev_model.specs.World.{World}
use Rattle.ev_subscription.specs.Subscriptions.{SubscriptionParts, HasVersions, InWorlds}
use Rattle.ev_subscription.specs.declared.changes.NameChange.{NameChange}
use Rattle.ev_subscription.specs.declared.changes.WatchedNames.{WatchedNames}

-- a request of this kind that states these versions, and asks for no change of names
abbrev pub bare_request : Kind → List (List ℕ × List ℕ) → Request
bare_request kind versions =
    record { kind = kind; node = None; subscribe = []; unsubscribe = []; versions = versions; nonce = None; error = None }

-- the first request of a stream in this world
abbrev pub clusters_request_in : World → Request
clusters_request_in world = clusters_request world.node world.versions

-- the names of each of these kinds that are watched, kind after kind
abbrev pub names_by : List Kind → Watched → List WatchedNames
names_by kinds watched = map (λ kind. record { kind = kind; names = watched kind }) kinds

-- all of these names of a kind are asked for, with these versions
abbrev pub whole_of : List KeptVersion → WatchedNames → List Request
whole_of versions watched = whole_request watched.kind watched.names versions

-- in every world that the subscription represents, the new requests ask after the old ones for all of these names of
-- a kind
abbrev pub AsksWhole : WatchedNames → SubscriptionParts → List Request → List Request → Type 0
AsksWhole watched subscription old new = InWorlds subscription (λ world. new ≡ old ++ whole_of world.versions watched)

-- the same for the names of each of these kinds
abbrev pub AsksWholes : List WatchedNames → SubscriptionParts → List Request → List Request → Type 0
AsksWholes watched subscription old new = InWorlds subscription (λ world. new ≡ old ++ flat_map (whole_of world.versions) watched)

-- in every world that the subscription represents, these are the requests that open a stream, by the names that are
-- watched
abbrev pub AsksFirst : List WatchedNames → List WatchedNames → Bool → SubscriptionParts → List Request → Type 0
AsksFirst before behind asked subscription requests =
    (world : World) (watched : Watched) → HasVersions subscription world
    → before ≡ names_by kinds_before watched → behind ≡ names_by kinds_behind watched
    → requests ≡ connect_requests_by world.node watched asked world.versions

-- how the names of a kind changed that are watched
abbrev pub change_of : Watched → Watched → Kind → NameChange
change_of before after kind = record { kind = kind; begun = other_than (before kind) (after kind); ended = other_than (after kind) (before kind) }

-- how the names of each of these kinds changed, kind after kind
abbrev pub changes_of : List Kind → Watched → Watched → List NameChange
changes_of kinds before after = map (change_of before after) kinds

-- what a change asks for
abbrev pub change_request : NameChange → List Request
change_request change = names_request change.kind change.begun change.ended []

-- in every world that the subscription represents, the new requests ask after the old ones for these changes, and
-- between them for all listeners, where they are asked for
abbrev pub AsksMore : List NameChange → List NameChange → Bool → SubscriptionParts → List Request → List Request → Type 0
AsksMore first last asked subscription old new = InWorlds subscription (λ world. new
    ≡ old ++ (flat_map change_request first ++ (listeners_asked asked world.versions ++ flat_map change_request last)))

-- in every world that the subscription represents, these are the requests of an event that changes what is watched
-- so: of the kinds before listeners, and of those behind them
abbrev pub AsksChanges : List NameChange → List NameChange → Bool → Option Request → SubscriptionParts → List Request → Type 0
AsksChanges first last asked reply subscription requests =
    (world : World) (before after : Watched) → HasVersions subscription world
    → first ≡ changes_of kinds_before before after → last ≡ changes_of kinds_behind before after
    → requests ≡ requests_by world.stream before after asked world.versions reply
