-- What contracts see of what the actors act on: the format whose rules it follows, its workers,
-- its node and its journal.
use Rattle.std.specs.Prelude.{ℕ, ◌≡◌, List, [], ◌∷◌, ◌++◌}
use Rattle.ev_types.specs.Scripts.{ScriptParts}
use Rattle.ev_types.specs.declared.events.Entry.{Entry}
use Rattle.ev_types.specs.declared.events.Actor.{Actor}
use Rattle.ev_types.specs.declared.events.Actor.TheVariants.{Worker}
use Rattle.ev_types.specs.declared.events.Answer.{Answer}
use Rattle.ev_types.specs.declared.events.Event.{Event}
use Rattle.ev_types.specs.declared.events.Event.TheVariants.{Settle}
use Rattle.ev_types.specs.declared.journals.Format.{Format}
use Rattle.ev_types.specs.declared.journals.Format.TheVariants.{Two}
use Rattle.ev_model.specs.World.{World, OpenMember, opening}
use Rattle.ev_model.specs.Step.{step}
use Rattle.ev_model.specs.Laws.{Laws}
use Rattle.ev_model.specs.Runs.{world_after}
use Rattle.ev_model.specs.Operations.{IsReplay}
use Rattle.ev_worker.specs.Batches.{entries_of}
use Rattle.ev_model.specs.declared.pictures.Picture.{Picture}
use Rattle.ev_model_laws.specs.Drawing.{NumbersSuffice}
use Rattle.ev_worker.specs.Workers.{HasWorker, IsMadeFrom, IsToldBy, WorkerParts}

-- the format, the workers, the node and the entries in order
pub record JournalParts : Type 0 where
  pub format : Format
  pub workers : ℕ
  pub node : List ℕ
  pub journal : List Entry

-- the world that the journal has led to
abbrev pub world_now : JournalParts → World
world_now parts = world_after parts.format (opening parts.workers parts.node) parts.journal

-- the numbers suffice for the event's resources in that world, where it brings some
abbrev pub SufficeFor : Event → JournalParts → Type 0
SufficeFor event parts = NumbersSuffice (world_now parts) event

-- the machine's answer there
abbrev pub answer_now : Actor → Event → JournalParts → Answer
answer_now actor event parts = (step parts.format (world_now parts) actor event).1

-- an event of an actor, answered as the machine answers it there, as an entry
abbrev pub entry_made : Actor → ℕ → ℕ → Event → JournalParts → Entry
entry_made actor at n event parts = record { actor = actor; at = at; step = n; event = event; answer = answer_now actor event parts }

-- The worker works in this world: its batch was made on the picture that it holds there
-- and the connections that it has open there. The world knows nothing of the batch yet.
pub record WorksIn (worker : WorkerParts) (world : World) : Type 0 where
  pub begun : List OpenMember
  pub made : IsMadeFrom begun worker
  pub has : HasWorker worker.number worker.picture begun world

-- what a worker did since it settled, as entries
abbrev pub entries_made : WorkerParts → List Entry
entries_made worker = entries_of worker.number worker.picture worker.lines

-- the world after them
abbrev pub world_behind : WorkerParts → JournalParts → World
world_behind worker parts = world_after parts.format (world_now parts) (entries_made worker)

-- the worker's settle after them, answered as the machine answers it
abbrev pub settle_made : WorkerParts → ℕ → ℕ → JournalParts → Entry
settle_made worker at n parts = record {
  actor = Worker worker.number;
  at = at;
  step = n;
  event = Settle;
  answer = (step parts.format (world_behind worker parts) (Worker worker.number) Settle).1;
}

-- with these entries more
abbrev pub with_entries : List Entry → JournalParts → JournalParts
with_entries entries parts = record parts { journal = parts.journal ++ entries }

-- with this entry more
abbrev pub with_entry : Entry → JournalParts → JournalParts
with_entry entry parts = with_entries (entry ∷ []) parts

-- the worker takes over that its settle after its batch closed these connections and moved these, and this picture
abbrev pub IsToldBehind : WorkerParts → List ℕ → List ℕ → Picture → JournalParts → Type 0
IsToldBehind worker closed moved picture parts = IsToldBy worker.number closed moved picture (world_behind worker parts)

-- with the worker's batch and its settle
abbrev pub with_settled : WorkerParts → ℕ → ℕ → JournalParts → JournalParts
with_settled worker at n parts = with_entries (entries_made worker ++ settle_made worker at n parts ∷ []) parts

-- nothing was done yet
abbrev pub nothing_done : ScriptParts → JournalParts
nothing_done script = record { format = Two; workers = script.workers; node = script.node; journal = [] }

-- it has the script's workers and node, and its journal is the script's replay by the rules
-- of format 2, and has the laws
pub record HasReplayed (script : ScriptParts) (parts : JournalParts) : Type 0 where
  pub format : parts.format ≡ Two
  pub workers : parts.workers ≡ script.workers
  pub node : parts.node ≡ script.node
  pub journal : IsReplay Two script parts.journal
  pub laws : Laws record { format = Two; workers = script.workers; node = script.node; journal = parts.journal }
