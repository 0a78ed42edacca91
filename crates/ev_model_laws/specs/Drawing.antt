-- For what numbers of generations are allocated.
use Rattle.std.specs.Prelude.{◌≡◌, ℕ, ◌+◌, ◌≤◌, ◌<◌, ◌^◌, List}
use Rattle.std.specs.List.{sum_by}
use Rattle.ev_types.specs.Scripts.{items_in}
use Rattle.ev_types.specs.declared.events.Actor.{Actor}
use Rattle.ev_types.specs.declared.events.Entry.{Entry}
use Rattle.ev_types.specs.declared.events.Event.{Event}
use Rattle.ev_types.specs.declared.journals.Format.{Format}
use Rattle.ev_model.specs.World.{World, opening}
use Rattle.ev_model.specs.Runs.{world_after}
use Rattle.ev_model.specs.Step.{step}

-- the numbers suffice for the event's resources, where it brings some
abbrev pub NumbersSuffice : World → Event → Type 0
NumbersSuffice world event = 0 < items_in event → world.made + items_in event < 2 ^ 32

-- how many resources the events of these entries bring together
abbrev pub items_entered : List Entry → ℕ
items_entered entries = sum_by (λ (entry : Entry). items_in entry.event) entries

-- at most one number is allocated for each resource
pub record DrawsForResources : Type 0 where
  -- an event draws at most one for each of its own
  pub steps : (format : Format) (world : World) (actor : Actor) (event : Event)
      → (step format world actor event).0.made ≤ world.made + items_in event
  -- one without resources allocates none
  pub rests : (format : Format) (world : World) (actor : Actor) (event : Event) → items_in event ≡ 0
      → (step format world actor event).0.made ≡ world.made
  -- entries draw at most one for each of theirs
  pub runs : (format : Format) (world : World) (entries : List Entry)
      → (world_after format world entries).made ≤ world.made + items_entered entries
  -- so in a journal at most as many were allocated as its events have resources
  pub journals : (format : Format) (workers : ℕ) (node : List ℕ) (entries : List Entry)
      → (world_after format (opening workers node) entries).made ≤ items_entered entries
