-- Actors begin with all their operations, go on by what is due next,
-- and have done all where nothing is left. This project's own.
use Rattle.std.specs.Prelude.{ℕ, ◌≡◌, ◌<◌, ◌+◌, true, List, [], ◌∷◌, ◌++◌, length}
use Rattle.ev_types.specs.Events.{IsMainSide}
use Rattle.ev_types.specs.Scripts.{IsScript, ScriptParts}
use Rattle.ev_types.specs.declared.events.Actor.{Actor}
use Rattle.ev_types.specs.declared.events.Actor.TheVariants.{Worker}
use Rattle.ev_model.specs.World.{OpenMember}
use Rattle.ev_model.specs.Dead.{last_picture}
use Rattle.ev_model.specs.Runs.{is_batched}
use Rattle.ev_model.specs.Operations.{Operation, operations_of}
use Rattle.ev_worker.specs.Workers.{IsMadeFrom, WorkerParts}
use Rattle.ev_actors.specs.Journals.{JournalParts, nothing_done, world_now}
use Rattle.ev_actors.specs.Taken.{HasBegun}
use Rattle.ev_actors.specs.Working.{operations_made}
use Rattle.ev_commits.specs.Seen.{HasCommitted, IsLeftOut, LearnsAtRest}
use Rattle.ev_operations.specs.Dues.{AreDue}
use Rattle.ev_operations.specs.declared.due.Due.{Due}
use Rattle.ev_run.specs.Acting.{HasDone, HasEnded, HasGoneThrough, IsActingOn, IsNextAct, IsNextWork, IsWorking, IsWorkingOn, settle_of}

-- an actor of the main side begins with all that is due
abbrev pub BeginsActing : Type 0
BeginsActing =
    (script : ScriptParts) (actor : Actor) (dues : List Due) (parts : JournalParts) → IsScript script → parts ≡ nothing_done script
    → AreDue script actor dues (operations_of script actor) → IsActingOn script actor dues parts

-- what is due next it may make
abbrev pub MayActNext : Type 0
MayActNext =
    (script : ScriptParts) (actor : Actor) (due : Due) (todo : List Due) (parts : JournalParts) → IsActingOn script actor (due ∷ todo) parts
    → IsNextAct script actor due parts

-- once it has made that, the others are left
abbrev pub ActsOn : Type 0
ActsOn =
    (script : ScriptParts) (actor : Actor) (due : Due) (todo : List Due) (before after : JournalParts) → IsActingOn script actor (due ∷ todo) before
    → HasDone script actor due before after → IsActingOn script actor todo after

-- and with nothing left it has done all
abbrev pub EndsActing : Type 0
EndsActing =
    (script : ScriptParts) (actor : Actor) (parts : JournalParts) → IsMainSide actor → IsActingOn script actor [] parts → HasEnded script actor parts

-- a worker that has done nothing yet begins with all that is due
abbrev pub BeginsWorking : Type 0
BeginsWorking =
    (script : ScriptParts) (worker : WorkerParts) (dues : List Due) (parts : JournalParts) → IsScript script → parts ≡ nothing_done script
    → worker.number < script.workers → HasBegun worker.number (last_picture (world_now (nothing_done script))) worker
    → AreDue script (Worker worker.number) dues (operations_of script (Worker worker.number)) → IsWorkingOn script worker dues parts

-- what is due next it may make
abbrev pub MayWorkNext : Type 0
MayWorkNext =
    (script : ScriptParts) (worker : WorkerParts) (due : Due) (todo : List Due) (parts : JournalParts) → IsWorkingOn script worker (due ∷ todo) parts
    → IsNextWork script worker due parts

-- an accept or close that has joined its batch it has gone through
abbrev pub JoinsAsDue : Type 0
JoinsAsDue =
    (script : ScriptParts) (old new : WorkerParts) (o : Operation) (left : List Operation) (parts : JournalParts)
    → IsWorking script old (o ∷ left) parts → is_batched o.event ≡ true → new.number ≡ old.number → new.picture ≡ old.picture
    → length new.lines ≡ length old.lines + 1 → operations_made new ≡ operations_made old ++ o ∷ []
    → ((begun : List OpenMember) → IsMadeFrom begun old → IsMadeFrom begun new) → IsWorking script new left parts

-- so with a settle that it has made, with its batch before it, where that brings news to a worker at rest
abbrev pub CommitsAsDue : Type 0
CommitsAsDue =
    (script : ScriptParts) (old new : WorkerParts) (at step : ℕ) (left : List Operation) (before after : JournalParts)
    → IsWorking script old (settle_of old at step ∷ left) before → HasCommitted at step before after old new → LearnsAtRest after old
    → IsWorking script new left after

-- and with one that is left out
abbrev pub LeavesOutAsDue : Type 0
LeavesOutAsDue =
    (script : ScriptParts) (old new : WorkerParts) (at step : ℕ) (left : List Operation) (before after : JournalParts)
    → IsWorking script old (settle_of old at step ∷ left) before → (heard : JournalParts) → IsLeftOut before after heard old new
    → IsWorking script new left after

-- once it has gone through what is due next, the others are left
abbrev pub WorksOn : Type 0
WorksOn =
    (script : ScriptParts) (due : Due) (todo : List Due) (before after : JournalParts) (old new : WorkerParts) → new.number ≡ old.number
    → IsWorkingOn script old (due ∷ todo) before → HasGoneThrough script due before after old new → IsWorkingOn script new todo after

-- and with nothing left it has done all
abbrev pub EndsWorking : Type 0
EndsWorking = (script : ScriptParts) (worker : WorkerParts) (parts : JournalParts) → IsWorkingOn script worker [] parts → HasEnded script (Worker worker.number) parts
