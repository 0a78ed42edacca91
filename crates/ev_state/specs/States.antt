-- What the managers, the subscription and the targets know together, and at which worlds they are.
use Rattle.std.specs.Prelude.{◌≡◌, ℕ, true, false, not, ◌&&◌, if◌then◌else◌, List, All, filter, Option, None, Some}
use Rattle.std.specs.List.{AllByRecursion}
use Rattle.ev_types.specs.Statuses.{is_live}
use Rattle.ev_types.specs.declared.events.Answer.{Answer}
use Rattle.ev_types.specs.declared.rows.GenRow.{GenRow}
use Rattle.ev_types.specs.declared.rows.KeptVersion.{KeptVersion}
use Rattle.ev_model.specs.World.{World}
use Rattle.ev_model.specs.Live.{lives_of}
use Rattle.ev_model.specs.Tidy.{is_version_due}
use Rattle.ev_types.specs.Kinds.{is_by_name}
use Rattle.ev_indexes.specs.Tables.{is_number, row_in}
use Rattle.ev_indexes.specs.Worlds.{IsSound}
use Rattle.ev_managers.specs.declared.moved.Moved.{Moved}
use Rattle.ev_managers.specs.Managers.{AreForgotten, AreManagersKept, StandFor}
use Rattle.ev_subscription.specs.Subscriptions.{HasVersions}
use Rattle.ev_state.specs.InitTargets.{HaveBooted}
use Rattle.ev_state.specs.declared.state.State.{State}
use Rattle.ev_state.specs.Ages.{AreLater}
use Rattle.ev_state.specs.Retirements.{HaveMoved}

-- each part has what the world has of it
pub record HasWorld (s : State) (world : World) : Type 0 where
  pub managers : StandFor s.managers world
  pub subscription : HasVersions s.subscription world
  pub targets : HaveBooted s.targets world

-- An event leads from one world to another: each part has what the other has of it, and each generation of the first
-- stays in its place. A version of what is asked for by name is kept only of a name that the first one watches. The
-- phase is still that of the first.
pub record Follows (s : State) (before world : World) : Type 0 where
  pub stands : HasWorld s world
  pub sound : IsSound before
  pub later : AreLater before.made before.rows world.rows
  pub heard : All (λ (kept : KeptVersion). is_version_due (lives_of before) kept ≡ true) world.versions
  pub phase : world.phase ≡ before.phase

-- between two events
pub record ManagesAt (s : State) (world : World) : Type 0 where
  pub kept : AreManagersKept s.managers
  pub forgotten : AreForgotten s.managers
  pub follows : Follows s world world
  pub whole : AllByRecursion (λ (row : GenRow). is_by_name row.kind ≡ false) world.rows

-- the state is at the world that the machine's step leads to, but for which generations it has; the answer is the
-- machine's, and these are what the step moved
pub record IsStep (s : State) (told : Answer) (these : Moved) (before : World) (stepped : World × Answer) : Type 0 where
  pub kept : AreManagersKept s.managers
  pub forgotten : AreForgotten s.managers
  pub follows : Follows s stepped.0 stepped.0
  pub later : AreLater before.made before.rows stepped.0.rows
  pub answer : told ≡ stepped.1
  pub moved : HaveMoved these before stepped.0

-- the worlds differ at most in what was published, which picture each worker holds, which connections are open, and
-- which drain timeouts came
pub record SameManaged (before after : World) : Type 0 where
  pub rows : after.rows ≡ before.rows
  pub made : after.made ≡ before.made
  pub arrivals : after.arrivals ≡ before.arrivals
  pub results : after.results ≡ before.results
  pub versions : after.versions ≡ before.versions
  pub stream : after.stream ≡ before.stream
  pub first_clusters : after.first_clusters ≡ before.first_clusters
  pub first_listeners : after.first_listeners ≡ before.first_listeners
  pub late_clusters : after.late_clusters ≡ before.late_clusters
  pub late_listeners : after.late_listeners ≡ before.late_listeners
  pub phase : after.phase ≡ before.phase
  pub node : after.node ≡ before.node

-- these rows without that of this number, where it drains or was dropped
abbrev pub without_over : ℕ → List GenRow → List GenRow
without_over number rows = filter (λ (row : GenRow). not (is_number number row && not (is_live row.status))) rows

-- the row, where it drains or was dropped
abbrev pub where_over : Option GenRow → Option GenRow
where_over None = None
where_over (Some row) = if is_live row.status then None else Some row

-- that of this number, where it drains or was dropped
abbrev pub over_in : ℕ → List GenRow → Option GenRow
over_in number rows = where_over (row_in number rows)

-- at every world that the old state follows between two events, the change is a step of the new state, with this
-- answer and these that it moved
abbrev pub StepBy : (World → World × Answer) → State → State → Answer → Moved → Type 0
StepBy change old new told these = (world : World) → Follows old world world → IsStep new told these world (change world)
