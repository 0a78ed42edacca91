-- Actors at their operations, beside a journal. This project's own.
use Rattle.std.specs.Prelude.{ℕ, ◌≡◌, ◌<◌, Bool, true, List, ◌∷◌, ◌++◌, length, Some, ⊤}
use Rattle.ev_types.specs.Events.{MayMake}
use Rattle.ev_types.specs.Scripts.{ScriptParts}
use Rattle.ev_types.specs.declared.events.Actor.{Actor}
use Rattle.ev_types.specs.declared.events.Actor.TheVariants.{Stream, Health, Timer, Main, Worker}
use Rattle.ev_types.specs.declared.events.Event.TheVariants.{Settle}
use Rattle.ev_model.specs.World.{opening}
use Rattle.ev_model.specs.Runs.{is_batched}
use Rattle.ev_model.specs.Operations.{AreDone, Operation, batch_limit, operations_of}
use Rattle.ev_worker.specs.Workers.{WorkerParts}
use Rattle.ev_actors.specs.Journals.{JournalParts, SufficeFor, WorksIn, world_now}
use Rattle.ev_actors.specs.Resting.{SettlesForNews}
use Rattle.ev_actors.specs.Working.{operations_made}
use Rattle.ev_commits.specs.Seen.{HasActed, IsIdle}
use Rattle.ev_operations.specs.Dues.{AreDue, operation_due}
use Rattle.ev_operations.specs.declared.due.Due.{Due}
use Rattle.ev_run.specs.Left.{AreOwn, FitsSoFar, KeepToBatches, SufficeForAll, deeds_in}

-- an actor of the main side has these operations of the script left
pub record IsActing (script : ScriptParts) (actor : Actor) (left : List Operation) (parts : JournalParts) : Type 0 where
  pub own : AreOwn script.workers actor left
  pub suffice : SufficeForAll actor left parts
  pub rests : Bool
  pub fits : FitsSoFar (operations_of script actor) actor rests left parts

-- a worker's settles at rest have brought news in the journal; of the others nothing is said
abbrev pub HasNews : Actor → JournalParts → Type 0
HasNews Stream parts = ⊤
HasNews Health parts = ⊤
HasNews Timer parts = ⊤
HasNews Main parts = ⊤
HasNews (Worker worker) parts = SettlesForNews parts.format worker true (opening parts.workers parts.node) parts.journal

-- A worker has these operations of the script left, after those of its batch.
-- Where it did nothing since it settled and has nothing open, it rests.
pub record IsWorking (script : ScriptParts) (worker : WorkerParts) (left : List Operation) (parts : JournalParts) : Type 0 where
  pub own : AreOwn script.workers (Worker worker.number) left
  pub works : WorksIn worker (world_now parts)
  pub room : KeepToBatches (length worker.lines) left
  pub rests : Bool
  pub fits : FitsSoFar (operations_of script (Worker worker.number)) (Worker worker.number) rests (operations_made worker ++ left) parts
  pub idle : IsIdle worker → rests ≡ true
  pub news : HasNews (Worker worker.number) parts

-- the same, where what is left is given by places of lines
pub record IsActingOn (script : ScriptParts) (actor : Actor) (todo : List Due) (parts : JournalParts) : Type 0 where
  pub left : List Operation
  pub due : AreDue script actor todo left
  pub acting : IsActing script actor left parts

pub record IsWorkingOn (script : ScriptParts) (worker : WorkerParts) (todo : List Due) (parts : JournalParts) : Type 0 where
  pub left : List Operation
  pub due : AreDue script (Worker worker.number) todo left
  pub working : IsWorking script worker left parts

-- what an actor of the main side is to do next is an operation that it may make, and the numbers suffice for it
pub record IsNextAct (script : ScriptParts) (actor : Actor) (due : Due) (parts : JournalParts) : Type 0 where
  pub operation : Operation
  pub is : operation_due script actor due ≡ Some operation
  pub own : operation.actor ≡ actor
  pub allowed : MayMake script.workers operation.actor operation.event
  pub suffice : SufficeFor operation.event parts

-- what was to be done next is done
abbrev pub HasDone : ScriptParts → Actor → Due → JournalParts → JournalParts → Type 0
HasDone script actor due before after = (o : Operation) → operation_due script actor due ≡ Some o → HasActed o before after

-- what a worker is to do next is an operation that it may make, and its batch has room for an accept or close
pub record IsNextWork (script : ScriptParts) (worker : WorkerParts) (due : Due) (parts : JournalParts) : Type 0 where
  pub operation : Operation
  pub is : operation_due script (Worker worker.number) due ≡ Some operation
  pub own : operation.actor ≡ Worker worker.number
  pub allowed : MayMake script.workers operation.actor operation.event
  pub works : WorksIn worker (world_now parts)
  pub room : is_batched operation.event ≡ true → length worker.lines < batch_limit

-- a worker has gone through an operation: whatever it had left after it is left now
abbrev pub GoesThrough : ScriptParts → Operation → JournalParts → JournalParts → WorkerParts → WorkerParts → Type 0
GoesThrough script o before after old new = (left : List Operation) → IsWorking script old (o ∷ left) before → IsWorking script new left after

-- what the worker was to do next it has gone through
abbrev pub HasGoneThrough : ScriptParts → Due → JournalParts → JournalParts → WorkerParts → WorkerParts → Type 0
HasGoneThrough script due before after old new =
    (o : Operation) → operation_due script (Worker old.number) due ≡ Some o → GoesThrough script o before after old new

-- a worker's settle at a line
abbrev pub settle_of : WorkerParts → ℕ → ℕ → Operation
settle_of worker at step = record { actor = Worker worker.number; at = at; step = step; event = Settle }

-- the actor has done all of its operations of the script, and a worker's settles at rest have brought news
pub record HasEnded (script : ScriptParts) (actor : Actor) (parts : JournalParts) : Type 0 where
  pub done : AreDone true (operations_of script actor) (deeds_in parts actor)
  pub news : HasNews actor parts
