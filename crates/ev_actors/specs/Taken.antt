-- What the steps of a replay do.
use Rattle.std.specs.Prelude.{ℕ, ◌≡◌, ◌≤◌, ◌<◌, ◌+◌, Bool, List, [], ◌∷◌, ◌++◌, map, length, get_or, take}
use Rattle.std.specs.List.{flat_map}
use Rattle.ev_types.specs.Scripts.{ScriptParts, items_in}
use Rattle.ev_types.specs.declared.events.Actor.TheVariants.{Worker}
use Rattle.ev_types.specs.declared.events.Event.TheVariants.{Publish, Reap, Settle}
use Rattle.ev_types.specs.declared.events.Answer.{Answer}
use Rattle.ev_types.specs.declared.events.Line.{Line}
use Rattle.ev_model.specs.World.{OpenMember}
use Rattle.ev_model.specs.Operations.{Operation, entry_of, operation_of, step_behind}
use Rattle.ev_model.specs.declared.pictures.Picture.{Picture}
use Rattle.ev_worker.specs.Workers.{IsMadeFrom, WorkerParts}
use Rattle.ev_actors.specs.Journals.{JournalParts, WorksIn, with_entries, with_settled, world_now}
use Rattle.ev_actors.specs.Passes.{one_pass, put_out, waiting_behind, waiting_of}
use Rattle.ev_actors.specs.Working.{AreAtWork, HaveWaiting, IsAtWork, operations_made}

-- what the journal holds, as operations
abbrev pub operations_in : JournalParts → List Operation
operations_in parts = map operation_of parts.journal

-- the journal goes on, and nothing else changes
abbrev pub GoesOn : JournalParts → JournalParts → Type 0
GoesOn before after = after ≡ record before { journal = after.journal }

-- a worker has settled: its batch and its settle are in the journal, it begins a batch, and it works on
pub record HasSettled (at step : ℕ) (before after : JournalParts) (old new : WorkerParts) : Type 0 where
  pub entered : after ≡ with_settled old at step before
  pub number : new.number ≡ old.number
  pub lines : new.lines ≡ []
  pub works : WorksIn new (world_now after)

-- an accept or close has joined its worker's batch
pub record HasJoined (line : Line) (old new : WorkerParts) : Type 0 where
  pub number : new.number ≡ old.number
  pub picture : new.picture ≡ old.picture
  pub longer : length new.lines ≡ length old.lines + 1
  pub made : operations_made new ≡ operations_made old ++ record { actor = Worker old.number; at = line.at; step = 0; event = line.event } ∷ []
  pub from : (begun : List OpenMember) → IsMadeFrom begun old → IsMadeFrom begun new

-- a line has gone through one of the workers: what goes out is in the journal, and what waits is in its batch
pub record HasWorked (line : Line) (before after : JournalParts) (old new : WorkerParts) : Type 0 where
  pub goes_on : GoesOn before after
  pub drawn : (world_now after).made ≡ (world_now before).made
  pub worker : IsAtWork old.number (world_now after) new
  pub others : (other : WorkerParts) → (other.number ≡ old.number → ⊥) → WorksIn other (world_now before) → WorksIn other (world_now after)
  pub out : (auto : Bool) (waiting : List Operation) → waiting_of (Worker old.number) waiting ≡ operations_made old
      → operations_in after ≡ operations_in before ++ put_out auto waiting line
  pub waits : (waiting : List Operation) → waiting_of (Worker old.number) waiting ≡ operations_made old
      → waiting_of (Worker old.number) (waiting_behind waiting line) ≡ operations_made new

-- an operation of the main side is in the journal
pub record HasEntered (o : Operation) (before after : JournalParts) : Type 0 where
  pub answer : Answer
  pub entered : after ≡ with_entries (entry_of o answer ∷ []) before
  pub drawn : (world_now after).made ≤ (world_now before).made + items_in o.event

-- a publication and a reaping have followed a line
pub record HasFollowed (line : Line) (before after : JournalParts) : Type 0 where
  pub goes_on : GoesOn before after
  pub drawn : (world_now after).made ≤ (world_now before).made
  pub workers : (worker : WorkerParts) → WorksIn worker (world_now before) → WorksIn worker (world_now after)
  pub out : operations_in after ≡ operations_in before ++ step_behind line 1 Publish ∷ step_behind line 2 Reap ∷ []

-- a line of the main side has gone out, with what follows it
pub record HasGoneOut (auto : Bool) (line : Line) (before after : JournalParts) : Type 0 where
  pub goes_on : GoesOn before after
  pub drawn : (world_now after).made ≤ (world_now before).made + items_in line.event
  pub workers : (worker : WorkerParts) → WorksIn worker (world_now before) → WorksIn worker (world_now after)
  pub out : (waiting : List Operation) → operations_in after ≡ operations_in before ++ put_out auto waiting line

-- a line was taken
pub record IsTaken (auto : Bool) (line : Line) (before after : JournalParts) (old new : List WorkerParts) : Type 0 where
  pub goes_on : GoesOn before after
  pub drawn : (world_now after).made ≤ (world_now before).made + items_in line.event
  pub count : length new ≡ length old
  pub working : AreAtWork (world_now after) new
  pub out : (waiting : List Operation) → HaveWaiting old waiting → operations_in after ≡ operations_in before ++ put_out auto waiting line
  pub waits : (waiting : List Operation) → HaveWaiting old waiting → HaveWaiting new (waiting_behind waiting line)

-- what goes out for a worker at the end: its batch, and a settle
abbrev pub last_of : ℕ → WorkerParts → List Operation
last_of at worker = operations_made worker ++ record { actor = Worker worker.number; at = at; step = 0; event = Settle } ∷ []

-- each of these workers has settled at a line, in order
pub record HaveSettled (at : ℕ) (before after : JournalParts) (workers : List WorkerParts) : Type 0 where
  pub goes_on : GoesOn before after
  pub out : operations_in after ≡ operations_in before ++ flat_map (last_of at) workers

-- the workers before this place have settled at a line, in order, and the others are as they were
pub record IsSettling (at : ℕ) (before now : JournalParts) (all workers : List WorkerParts) (place : ℕ) : Type 0 where
  pub goes_on : GoesOn before now
  pub count : length workers ≡ length all
  pub same : (k : ℕ) (d : WorkerParts) → place ≤ k → k < length workers → get_or workers k d ≡ get_or all k d
  pub working : (k : ℕ) (d : WorkerParts) → place ≤ k → k < length workers → WorksIn (get_or workers k d) (world_now now)
  pub out : operations_in now ≡ operations_in before ++ flat_map (last_of at) (take place all)

-- it is the worker of this number, with this picture, and it has done nothing yet
pub record HasBegun (place : ℕ) (shown : Picture) (worker : WorkerParts) : Type 0 where
  pub number : worker.number ≡ place
  pub picture : worker.picture ≡ shown
  pub lines : worker.lines ≡ []
  pub made : IsMadeFrom [] worker

-- this holds for each of this many workers, which are listed by number
pub record HaveBegun (number : ℕ) (shown : Picture) (workers : List WorkerParts) : Type 0 where
  pub count : length workers ≡ number
  pub each : (k : ℕ) (d : WorkerParts) → k < length workers → HasBegun k shown (get_or workers k d)

-- a replay is under way: these lines are left, and what the journal holds and what waits are those of one pass
pub record IsUnderWay (script : ScriptParts) (parts : JournalParts) (workers : List WorkerParts) (left : List Line) : Type 0 where
  pub count : length workers ≡ script.workers
  pub working : AreAtWork (world_now parts) workers
  pub waiting : List Operation
  pub waits : HaveWaiting workers waiting
  pub order : operations_in parts ++ one_pass script waiting left ≡ one_pass script [] script.lines
