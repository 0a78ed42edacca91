-- What is known of a name that is watched. This project's own.
use Rattle.std.specs.Prelude.{ℕ, ◌≡◌, ◌&&◌, Bool, true, false, List, Some, slice_get}
use Rattle.std.specs.Str.{bytes_eq}
use Rattle.ev_types.specs.Items.{ItemParts, ResponseParts}
use Rattle.ev_types.specs.Kinds.{kind_same}
use Rattle.ev_types.specs.declared.contents.Kind.{Kind}
use Rattle.ev_types.specs.declared.contents.Body.TheVariants.{Good}
use Rattle.ev_types.specs.declared.contents.Content.{Content}
use Rattle.ev_types.specs.declared.events.Actor.{Actor}
use Rattle.ev_types.specs.declared.events.Event.{Event}
use Rattle.ev_types.specs.declared.events.Event.TheVariants.{Response, TtlExpired}
use Rattle.ev_types.specs.declared.events.Verdict.TheVariants.{Kept}
use Rattle.ev_types.specs.declared.journals.Format.{Format}
use Rattle.ev_model.specs.World.{World}
use Rattle.ev_model.specs.Live.{lives_of}
use Rattle.ev_model.specs.Watching.{is_watched}
use Rattle.ev_model.specs.Verdicts.{verdicts_of}
use Rattle.ev_model.specs.Warming.{value_of, is_told, last_told}
use Rattle.ev_model.specs.Entries.{tells_of_name}
use Rattle.ev_model.specs.Step.{step}

-- the event is the end of the life of this name's resource
abbrev pub ends_name : Kind → List ℕ → Event → Bool
ends_name kind name (TtlExpired of ended) = kind_same of kind && bytes_eq ended name
ends_name kind name event = false

-- a name has the value that it had, and is told of where it was, for the generations that it was told of for
pub record HasSameValue (kind : Kind) (name : List ℕ) (before after : World) : Type 0 where
  pub value : value_of after kind name ≡ value_of before kind name
  pub told : is_told after kind name ≡ is_told before kind name
  pub last : last_told after.arrivals kind name ≡ last_told before.arrivals kind name

-- a name that is watched after an event which says nothing of it has the value that it had, and is told of where it was
abbrev pub ToldStays : Type 0
ToldStays =
    (format : Format) (world : World) (actor : Actor) (event : Event) (kind : Kind) (name : List ℕ)
    → is_watched (lives_of (step format world actor event).0) kind name ≡ true
    → tells_of_name kind name event (step format world actor event).1 ≡ false
    → ends_name kind name event ≡ false
    → HasSameValue kind name world (step format world actor event).0

-- a resource that an answered response keeps is the value of its name,
-- which is told of for each generation that was made, where the name is watched after it
abbrev pub KeptIsValue : Type 0
KeptIsValue =
    (format : Format) (world : World) (actor : Actor) (response : ResponseParts) (kind : Kind) (place : ℕ) (item : ItemParts) (content : Content)
    → world.stream ≡ true → response.kind ≡ Some kind
    → slice_get (verdicts_of (lives_of world) world.versions response) place ≡ Some Kept
    → slice_get response.items place ≡ Some item → item.body ≡ Good content
    → is_watched (lives_of (step format world actor (Response response)).0) kind item.name ≡ true
    → (value_of (step format world actor (Response response)).0 kind item.name ≡ Some content)
    × (is_told (step format world actor (Response response)).0 kind item.name ≡ true)
    × (last_told (step format world actor (Response response)).0.arrivals kind item.name ≡ Some world.made)
