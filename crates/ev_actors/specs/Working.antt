-- Workers at work beside a journal.
use Rattle.std.specs.Prelude.{ℕ, ◌≡◌, ◌<◌, List, map, length, get_or}
use Rattle.ev_types.specs.declared.events.Actor.TheVariants.{Worker}
use Rattle.ev_model.specs.World.{World}
use Rattle.ev_model.specs.Operations.{Operation, batch_limit}
use Rattle.ev_worker.specs.Workers.{WorkerParts}
use Rattle.ev_worker.specs.declared.lines.BatchLine.{BatchLine}
use Rattle.ev_actors.specs.Journals.{WorksIn}
use Rattle.ev_actors.specs.Passes.{waiting_of}

-- a line of a worker's batch, as an operation
abbrev pub operation_made : ℕ → BatchLine → Operation
operation_made worker line = record { actor = Worker worker; at = line.at; step = 0; event = line.event }

-- what a worker did since it settled, as operations
abbrev pub operations_made : WorkerParts → List Operation
operations_made worker = map (operation_made worker.number) worker.lines

-- it is the worker of this number, it works in this world, and its batch has room
pub record IsAtWork (place : ℕ) (world : World) (worker : WorkerParts) : Type 0 where
  pub number : worker.number ≡ place
  pub works : WorksIn worker world
  pub room : length worker.lines < batch_limit

-- this holds for each of these workers, which are listed by number
abbrev pub AreAtWork : World → List WorkerParts → Type 0
AreAtWork world workers = (k : ℕ) (d : WorkerParts) → k < length workers → IsAtWork k world (get_or workers k d)

-- what waits is what these workers did since they settled
abbrev pub HaveWaiting : List WorkerParts → List Operation → Type 0
HaveWaiting workers waiting =
    (k : ℕ) (d : WorkerParts) → k < length workers → waiting_of (Worker k) waiting ≡ operations_made (get_or workers k d)
