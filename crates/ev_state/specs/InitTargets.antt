-- How far the proxy has booted, and which worlds that represents. Source: Envoy's initialization: listeners are asked
-- for once the first clusters have warmed.
use Rattle.std.specs.Prelude.{◌≡◌, ℕ, Bool, true, not, ◌||◌, if◌then◌else◌, List, Option, is_some}
use Rattle.ev_types.specs.Items.{ResponseParts}
use Rattle.ev_types.specs.declared.contents.Kind.{Kind}
use Rattle.ev_types.specs.declared.contents.Kind.TheVariants.{Cds, Lds}
use Rattle.ev_types.specs.declared.events.Verdict.{Verdict}
use Rattle.ev_types.specs.declared.rows.Phase.{Phase}
use Rattle.ev_model.specs.World.{World}
use Rattle.ev_model.specs.Rows.{made_names, noted_once, with_first}
use Rattle.ev_model.specs.Phase.{have_come, is_clusters}
use Rattle.ev_model.specs.Tidy.{with_phase}
use Rattle.ev_lookups.specs.Keys.{named}
use Rattle.ev_indexes.specs.Reads.{has_come_in}
use Rattle.ev_indexes.specs.Worlds.{HasRows}
use Rattle.ev_indexes.specs.declared.state.State.{State}

-- the first names of a kind, where a first response came, and whether they are late
pub record FirstParts : Type 0 where
  pub names : Option (List (List ℕ))
  pub late : Bool

-- the phase, and of clusters and of listeners the first names and whether they are late
pub record InitTargetsParts : Type 0 where
  pub phase : Phase
  pub first_clusters : Option (List (List ℕ))
  pub first_listeners : Option (List (List ℕ))
  pub late_clusters : Bool
  pub late_listeners : Bool

-- the world has booted so far
pub record HaveBooted (targets : InitTargetsParts) (world : World) : Type 0 where
  pub phase : targets.phase ≡ world.phase
  pub first_clusters : targets.first_clusters ≡ world.first_clusters
  pub first_listeners : targets.first_listeners ≡ world.first_listeners
  pub late_clusters : targets.late_clusters ≡ world.late_clusters
  pub late_listeners : targets.late_listeners ≡ world.late_listeners

-- the first names of a kind once a response with these verdicts came
abbrev pub names_noted : FirstParts → List Verdict → ResponseParts → Option (List (List ℕ))
names_noted first verdicts response = noted_once first.names (made_names verdicts response.items)

-- a name of this kind has come, by what is known
abbrev pub comes_in : Kind → State → List ℕ → Bool
comes_in kind s name = has_come_in s.table.rows (named kind name)

-- the first clusters have come, or are late
abbrev pub clusters_come : InitTargetsParts → State → Bool
clusters_come targets s = have_come targets.late_clusters (comes_in Cds s) targets.first_clusters

-- the first listeners have come, or are late
abbrev pub listeners_come : InitTargetsParts → State → Bool
listeners_come targets s = have_come targets.late_listeners (comes_in Lds s) targets.first_listeners

-- it is so in every world that the targets represent
abbrev pub InWorlds : InitTargetsParts → (World → Type 0) → Type 0
InWorlds targets Said = (world : World) → HaveBooted targets world → Said world

-- whatever world the old ones represented, the new ones represent what the change makes of it
abbrev pub StandAfter : (World → World) → InitTargetsParts → InitTargetsParts → Type 0
StandAfter change old new = (world : World) → HaveBooted old world → HaveBooted new (change world)

-- the world with the names noted that a response of this kind made generations for, where it is the first one
abbrev pub with_first_made : Kind → List Verdict → ResponseParts → World → World
with_first_made kind verdicts response world = with_first kind (made_names verdicts response.items) world

-- no response of clusters came, and they aren't late
abbrev pub awaits_clusters : World → Bool
awaits_clusters world = not (is_some world.first_clusters || world.late_clusters)

-- the first clusters are no longer awaited, no response of listeners came, and they aren't late
abbrev pub awaits_listeners : World → Bool
awaits_listeners world = not (is_clusters world.phase || (is_some world.first_listeners || world.late_listeners))

-- the world with the mark that clusters are late, where they are
abbrev pub with_late_clusters : Bool → World → World
with_late_clusters are_late world = if are_late then record world { late_clusters = true } else world

-- the world with the mark that listeners are late, where they are
abbrev pub with_late_listeners : Bool → World → World
with_late_listeners are_late world = if are_late then record world { late_listeners = true } else world

-- whatever world the old ones and the managers represented, the new ones represent it in the phase that follows
abbrev pub MoveOn : State → InitTargetsParts → InitTargetsParts → Type 0
MoveOn s old new = (world : World) → HaveBooted old world → HasRows s world → HaveBooted new (with_phase world)
