-- What an event says of names that are watched, and of generations that live. This project's own.
use Rattle.std.specs.Prelude.{ℕ, ◌≡◌, ◌⊎◌, Bool, true, false, List, Some}
use Rattle.std.specs.List.{list_any}
use Rattle.std.specs.Str.{bytes_eq}
use Rattle.ev_types.specs.Items.{ItemParts, ResponseParts}
use Rattle.ev_types.specs.declared.contents.Kind.{Kind}
use Rattle.ev_types.specs.declared.events.Actor.{Actor}
use Rattle.ev_types.specs.declared.events.Event.{Event}
use Rattle.ev_types.specs.declared.events.Event.TheVariants.{Response}
use Rattle.ev_types.specs.declared.journals.Format.{Format}
use Rattle.ev_model.specs.World.{World}
use Rattle.ev_model.specs.Live.{lives_of, is_named}
use Rattle.ev_types.specs.Kinds.{is_by_name}
use Rattle.ev_model.specs.Watching.{has_dependency, is_watched}
use Rattle.ev_model.specs.Verdicts.{is_removed}
use Rattle.ev_model.specs.Entries.{MadeRow, made_in}
use Rattle.ev_model.specs.Step.{step}

-- the generation that a resource made depends on this name
abbrev pub waits_for : Kind → List ℕ → MadeRow → Bool
waits_for kind name made = has_dependency kind name made.content

-- on each name that is watched after an event, and wasn't before it, a generation depends that the event has made
abbrev pub WatchesBeginWithNew : Type 0
WatchesBeginWithNew =
    (format : Format) (world : World) (actor : Actor) (event : Event) (kind : Kind) (name : List ℕ)
    → is_watched (lives_of world) kind name ≡ false
    → is_watched (lives_of (step format world actor event).0) kind name ≡ true
    → list_any (waits_for kind name) (made_in event (step format world actor event).1) ≡ true

-- a generation of this kind and name lives
abbrev pub has_live : World → Kind → List ℕ → Bool
has_live world kind name = list_any (is_named kind name) (lives_of world)

-- a resource of the response has this name
abbrev pub has_item : ResponseParts → List ℕ → Bool
has_item response name = list_any (λ (item : ItemParts). bytes_eq item.name name) response.items

-- what lives after an answered response of clusters or listeners, of its kind,
-- has the name of one of its resources, or lived before and isn't removed by it
abbrev pub LiveAreNamed : Type 0
LiveAreNamed =
    (format : Format) (world : World) (actor : Actor) (response : ResponseParts) (kind : Kind) (name : List ℕ)
    → world.stream ≡ true → response.kind ≡ Some kind → is_by_name kind ≡ false
    → has_live (step format world actor (Response response)).0 kind name ≡ true
    → (has_item response name ≡ true) ⊎ ((has_live world kind name ≡ true) × (is_removed response name ≡ false))
