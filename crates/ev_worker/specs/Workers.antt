-- What contracts see of a worker, and what a world has of it.
use Rattle.std.specs.Prelude.{◌≡◌, ◌<◌, ℕ, not, ⊤, if◌then◌else◌, List, [], ◌∷◌, filter, length, map}
use Rattle.ev_types.specs.declared.events.Actor.TheVariants.{Worker as by_worker}
use Rattle.ev_types.specs.declared.events.Event.{Event}
use Rattle.ev_types.specs.declared.events.Event.TheVariants.{Accept, Close}
use Rattle.ev_types.specs.declared.events.Ask.{Ask}
use Rattle.ev_types.specs.declared.journals.Format.{Format}
use Rattle.ev_model.specs.World.{World, OpenMember}
use Rattle.ev_model.specs.Dead.{last_picture, picture_held}
use Rattle.ev_model.specs.Connections.{Worked, accepted, connections_where, is_closing, is_member, is_moving, is_open, listener_after, settle}
use Rattle.ev_model.specs.Picture.{has_number}
use Rattle.ev_model.specs.Step.{step}
use Rattle.ev_model.specs.Runs.{RunsFrom, world_after}
use Rattle.ev_model.specs.declared.pictures.Picture.{Picture}
use Rattle.ev_model.specs.declared.pictures.Shown.{Shown}
use Rattle.ev_worker.specs.declared.lines.BatchLine.{BatchLine}
use Rattle.ev_worker.specs.declared.lines.Outcome.{Outcome}
use Rattle.ev_worker.specs.declared.lines.Outcome.TheVariants.{Accepted, Closed}
use Rattle.ev_worker.specs.Batches.{accepted_as, closed_as, entries_of}

-- a worker: its number, the picture that it serves from, its open connections,
-- what it did since it settled, and how many more connections have room
pub record WorkerParts : Type 0 where
  pub number : ℕ
  pub picture : Picture
  pub opened : List OpenMember
  pub lines : List BatchLine
  pub spare : ℕ

-- of each number the worker's open connections are the same in both lists
abbrev pub SameOpen : ℕ → List OpenMember → List OpenMember → Type 0
SameOpen worker one other = (connection : ℕ) → filter (is_member worker connection) one ≡ filter (is_member worker connection) other

-- no connection of the worker's number is open
abbrev pub HasNoneOpen : WorkerParts → Type 0
HasNoneOpen worker = SameOpen worker.number worker.opened []

-- in this world the worker of this number holds this picture, and has these connections open
pub record HasWorker (number : ℕ) (picture : Picture) (opened : List OpenMember) (world : World) : Type 0 where
  pub holds : picture_held world number ≡ picture
  pub has : SameOpen number opened world.opened

-- in this world the worker holds its picture, and has its connections open
abbrev pub IsWorkerIn : WorkerParts → World → Type 0
IsWorkerIn worker world = HasWorker worker.number worker.picture worker.opened world

-- an event of a worker is answered as the machine answers it in this world,
-- by the picture that the worker holds there, and by its connections that are open
abbrev pub IsAnswer : ℕ → World → Event → Outcome → Type 0
IsAnswer worker world (Accept ask) outcome = outcome ≡ Accepted (accepted_as (picture_held world worker) ask (is_open world.opened worker ask.conn))
IsAnswer worker world (Close connection) outcome = outcome ≡ Closed (closed_as (is_open world.opened worker connection))
IsAnswer worker world event outcome = ⊥

-- each of a worker's lines is answered so, one after another
abbrev pub AreAnswered : Format → ℕ → World → List BatchLine → Type 0
AreAnswered format worker world [] = ⊤
AreAnswered format worker world (line ∷ lines) =
    IsAnswer worker world line.event line.outcome × AreAnswered format worker (step format world (by_worker worker) line.event).0 lines

-- The worker's batch was begun with these connections open.
-- At any world in which the worker holds its picture and has these open,
-- each line of the batch is answered as the machine answers it there, one after another,
-- by the choice that it makes there, and after them the worker represents the world.
pub record IsMadeFrom (begun : List OpenMember) (worker : WorkerParts) : Type 0 where
  pub answers : (format : Format) (workers : ℕ) (world : World) → worker.number < workers
      → HasWorker worker.number worker.picture begun world
      → RunsFrom format workers world (entries_of worker.number worker.picture worker.lines)
  pub chosen : (format : Format) (world : World)
      → HasWorker worker.number worker.picture begun world
      → AreAnswered format worker.number world worker.lines
  pub leads : (format : Format) (world : World)
      → HasWorker worker.number worker.picture begun world
      → IsWorkerIn worker (world_after format world (entries_of worker.number worker.picture worker.lines))

-- the connections whose numbers aren't among these
abbrev pub without_numbers : List ℕ → List OpenMember → List OpenMember
without_numbers numbers opened = filter (λ (m : OpenMember). not (has_number m.connection numbers)) opened

-- the connections, those of these numbers once they have moved by what is shown
abbrev pub moved_numbers : List ℕ → Shown → List OpenMember → List OpenMember
moved_numbers numbers shown opened =
    map (λ (m : OpenMember). if has_number m.connection numbers then record m { listener = listener_after shown m } else m) opened

-- the connections after a settle that closes these and moves these by what is shown
abbrev pub left_after : List ℕ → List ℕ → Shown → List OpenMember → List OpenMember
left_after closed moved shown opened = moved_numbers moved shown (without_numbers closed opened)

-- these are the connections that a settle of the worker closes and moves in this world,
-- and this is the world's last picture
pub record IsToldBy (number : ℕ) (closed moved : List ℕ) (picture : Picture) (world : World) : Type 0 where
  pub closes : closed ≡ connections_where (is_closing (last_picture world).shown world.expired number) world.opened
  pub moves : moved ≡ connections_where (is_moving (last_picture world).shown number) world.opened
  pub shows : picture ≡ last_picture world

-- what an accept comes to in the machine: the answer, and the connections that are open then
abbrev pub acceptance : Ask → WorkerParts → Worked
acceptance ask worker = accepted worker.picture ask worker.number worker.opened

-- Whatever world the first worker represents, where these are the numbers of the connections
-- that its settle closes and moves there and this is the world's last picture,
-- the second represents the world that its settle leaves.
abbrev pub SettlesBy : List ℕ → List ℕ → Picture → WorkerParts → WorkerParts → Type 0
SettlesBy closed moved picture before after =
    (world : World) → IsWorkerIn before world → before.number < length world.held → IsToldBy before.number closed moved picture world
    → IsWorkerIn after (settle before.number world).0
