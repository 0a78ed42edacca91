-- What a subscription knows, and which worlds it represents. Source: the xDS transport protocol, incremental variant.
use Rattle.std.specs.Prelude.{◌≡◌, ℕ, Bool, not, ◌&&◌, ◌||◌, if◌then◌else◌, List, filter}
use Rattle.std.specs.List.{list_any, AllByRecursion}
use Rattle.ev_types.specs.Items.{ItemParts, ResponseParts}
use Rattle.ev_types.specs.Kinds.{kind_same}
use Rattle.ev_types.specs.declared.contents.Kind.{Kind}
use Rattle.ev_types.specs.declared.events.Verdict.{Verdict}
use Rattle.ev_types.specs.declared.rows.KeptVersion.{KeptVersion}
use Rattle.ev_model.specs.World.{World}
use Rattle.ev_model.specs.Live.{lives_of}
use Rattle.ev_model.specs.Rows.{add_items, keep_version, with_content, with_removals}
use Rattle.ev_model.specs.Tidy.{is_version_due, without_unwatched}
use Rattle.ev_model.specs.Verdicts.{is_among, is_removed}
use Rattle.ev_model.specs.Versions.{with_version, without_version}
use Rattle.ev_model_laws.specs.VersionsKept.{AreKeptOnce}
use Rattle.ev_subscription.specs.declared.changes.NameChange.{NameChange}

-- the node, whether a stream is open, and the versions that are held: those of a kind in the order of their names
pub record SubscriptionParts : Type 0 where
  pub node : List ℕ
  pub stream : Bool
  pub versions : List KeptVersion

-- the versions of this kind
abbrev pub kept_of : Kind → List KeptVersion → List KeptVersion
kept_of kind versions = filter (λ (kept : KeptVersion). kind_same kept.kind kind) versions

-- the versions that are held of this kind
abbrev pub held_of : SubscriptionParts → Kind → List KeptVersion
held_of subscription kind = kept_of kind subscription.versions

-- this version of a kind and name, and whether the life of the resource is bounded
abbrev pub kept_version : Kind → List ℕ → List ℕ → Bool → KeptVersion
kept_version kind name version bounded = record { kind = kind; name = name; version = version; bounded = bounded }

-- the new one holds this version in place of the one that was held of its kind and name, and no other thing changes
pub record Accepts (version : KeptVersion) (old new : SubscriptionParts) : Type 0 where
  pub others : new ≡ record old { versions = new.versions }
  pub held : (kind : Kind) → held_of new kind
      ≡ (if kind_same kind version.kind then with_version version (held_of old version.kind) else held_of old kind)

-- the subscription has the node, the stream and the versions of the world, in which each is kept once and in the
-- order of the names
pub record HasVersions (subscription : SubscriptionParts) (world : World) : Type 0 where
  pub node : subscription.node ≡ world.node
  pub stream : subscription.stream ≡ world.stream
  pub versions : (kind : Kind) → held_of subscription kind ≡ kept_of kind world.versions
  pub kept_once : AreKeptOnce world.versions

-- the worlds have the same node, stream and versions
pub record SameVersions (world other : World) : Type 0 where
  pub node : world.node ≡ other.node
  pub stream : world.stream ≡ other.stream
  pub versions : world.versions ≡ other.versions

-- versions but those of these names of a kind
abbrev pub without_versions : Kind → List (List ℕ) → List KeptVersion → List KeptVersion
without_versions kind names versions = filter (λ (kept : KeptVersion). not (kind_same kept.kind kind && is_among kept.name names)) versions

-- versions but that of this kind and name, where the response removes it
abbrev pub without_removed : Kind → ResponseParts → List ℕ → List KeptVersion → List KeptVersion
without_removed kind response name versions =
    if is_removed response name then without_version kind name versions else versions

-- one of these changes says that the version's name ceased to be watched
abbrev pub has_ended : List NameChange → KeptVersion → Bool
has_ended changes kept = list_any (λ (change : NameChange). kind_same kept.kind change.kind && is_among kept.name change.ended) changes

-- versions but those of the names that ceased to be watched
abbrev pub without_ended : List NameChange → List KeptVersion → List KeptVersion
without_ended changes versions = filter (λ (kept : KeptVersion). not (has_ended changes kept)) versions

-- of the versions that the world has, those ceased to be watched that aren't due any more
abbrev pub AreEnded : List NameChange → List NameChange → World → Type 0
AreEnded before behind world =
    AllByRecursion (λ (kept : KeptVersion). (has_ended before kept || has_ended behind kept) ≡ not (is_version_due (lives_of world) kept)) world.versions

-- it is so in every world that the subscription represents
abbrev pub InWorlds : SubscriptionParts → (World → Type 0) → Type 0
InWorlds subscription Said = (world : World) → HasVersions subscription world → Said world

-- whatever world the old one represented, the new one represents what the change makes of it
abbrev pub StandsAfter : (World → World) → SubscriptionParts → SubscriptionParts → Type 0
StandsAfter change old new = (world : World) → HasVersions old world → HasVersions new (change world)

-- the world with the version of this item, where its body is good
abbrev pub with_good : Kind → ItemParts → World → World
with_good kind item world = with_content (λ content. keep_version kind item) item.body world

-- the world with its stream open, or not
abbrev pub with_stream : Bool → World → World
with_stream is_open world = record world { stream = is_open }

-- the world with its versions changed so
abbrev pub with_versions : (List KeptVersion → List KeptVersion) → World → World
with_versions change world = record world { versions = change world.versions }

-- whatever world the old one represented, the new one represents that world with this version
abbrev pub StandsWith : KeptVersion → SubscriptionParts → SubscriptionParts → Type 0
StandsWith version old new = StandsAfter (with_versions (with_version version)) old new

-- the world once the removals and the resources of a response are in
abbrev pub with_response : Kind → List Verdict → ResponseParts → World → World
with_response kind verdicts response world = add_items kind verdicts response.items (with_removals kind response world)

-- whatever world the old one represented, where these names ceased to be watched, of the kinds before listeners and of
-- those behind them, the new one represents that world without what isn't watched
abbrev pub StandsWithoutEnded : List NameChange → List NameChange → SubscriptionParts → SubscriptionParts → Type 0
StandsWithoutEnded before behind old new =
    (world : World) → HasVersions old world → AreEnded before behind world → HasVersions new (without_unwatched world)
