-- What an event changed of generations and of what is asked for.
use Rattle.std.specs.Prelude.{◌≡◌, ℕ, List}
use Rattle.ev_types.specs.declared.contents.Kind.{Kind}
use Rattle.ev_types.specs.declared.events.Answer.{Answer}
use Rattle.ev_model.specs.World.{World}
use Rattle.ev_model.specs.Watching.{kinds_before, kinds_behind, watched_of}
use Rattle.ev_model.specs.Requests.{has_left_clusters}
use Rattle.ev_model.specs.Signals.{moved}
use Rattle.ev_model.specs.Tidy.{tidy}
use Rattle.ev_indexes.specs.Worlds.{IsSound}
use Rattle.ev_managers.specs.Managers.{StandFor}
use Rattle.ev_managers.specs.declared.managers.Managers.{Managers}
use Rattle.ev_managers.specs.declared.moved.Moved.{Moved}
use Rattle.ev_subscription.specs.Asked.{change_of, changes_of}
use Rattle.ev_subscription.specs.declared.changes.NameChange.{NameChange}
use Rattle.ev_state.specs.declared.asked.Asked.{Asked}
use Rattle.ev_state.specs.declared.state.State.{State}
use Rattle.ev_state.specs.Ages.{AreLater}
use Rattle.ev_state.specs.Retirements.{HaveMoved, HaveRetired}
use Rattle.ev_state.specs.States.{Follows, IsStep}

-- Whatever worlds an event led the managers between, which drew the numbers after this one and retired these: this is
-- how the names of this kind changed that are watched.
abbrev pub ChangesNames : Managers → Kind → ℕ → List ℕ → NameChange → Type 0
ChangesNames m kind made retired change =
    (before world : World) → StandFor m world → IsSound before → AreLater before.made before.rows world.rows → made ≡ before.made
    → HaveRetired retired before world → change ≡ change_of (watched_of before) (watched_of world) kind

-- the same of each of these kinds
abbrev pub ChangeNames : Managers → List Kind → ℕ → List ℕ → List NameChange → Type 0
ChangeNames m kinds made retired changes =
    (before world : World) → StandFor m world → IsSound before → AreLater before.made before.rows world.rows → made ≡ before.made
    → HaveRetired retired before world → changes ≡ changes_of kinds (watched_of before) (watched_of world)

-- an event that led from the first world is over: how the names changed that are watched, whether the first phase was
-- left, and what it moved
pub record IsOver (s : State) (asked : Asked) (these : Moved) (before after : World) : Type 0 where
  pub follows : Follows s after after
  pub later : AreLater before.made before.rows after.rows
  pub changed_before : asked.before ≡ changes_of kinds_before (watched_of before) (watched_of after)
  pub changed_behind : asked.behind ≡ changes_of kinds_behind (watched_of before) (watched_of after)
  pub left : asked.left ≡ has_left_clusters before after
  pub moved : HaveMoved these before after

-- An event has led the old state from one world to another, this many numbers were allocated
-- before it, and it has moved these: tidying it up is over, and the others are all that it moved.
abbrev pub TidiesUp : State → State → ℕ → Moved → Moved → Asked → Type 0
TidiesUp old new made these all asked =
    (before world : World) → Follows old before world → made ≡ before.made → HaveMoved these before world → IsOver new asked all before (tidy world)

-- An event that allocated no number has led the old state from one world to another,
-- and has moved these: the new state is after the step that ends with what follows it.
abbrev pub MovesOn : State → State → Moved → Answer → Moved → Type 0
MovesOn old new these answer all =
    (before world : World) → Follows old before world → world.made ≡ before.made → HaveMoved these before world
    → IsStep new answer all before (moved before world)
