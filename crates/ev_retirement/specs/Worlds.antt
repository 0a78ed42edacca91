-- What calls do and answer, said of whatever world what holds generations represents. This project's own.
use Rattle.std.specs.Prelude.{◌≡◌, ℕ, Bool, true, List, ◌∷◌, ◌++◌, Option}
use Rattle.ev_types.specs.Statuses.{is_live}
use Rattle.ev_types.specs.declared.events.Answer.TheVariants.{Settled as settled_answer}
use Rattle.ev_types.specs.declared.contents.Kind.{Kind}
use Rattle.ev_types.specs.declared.journals.Format.{Format}
use Rattle.ev_types.specs.declared.rows.GenRow.{GenRow}
use Rattle.ev_model.specs.World.{World}
use Rattle.ev_model.specs.Picture.{shown_of}
use Rattle.ev_model.specs.Publishing.{dead_numbers, publish, without_dead}
use Rattle.ev_model.specs.Connections.{settle}
use Rattle.ev_model.specs.Runs.{world_after}
use Rattle.ev_model.specs.Signals.{drain_timeout}
use Rattle.ev_model.specs.declared.pictures.Picture.{Picture}
use Rattle.ev_snapshot.specs.declared.changes.Changes.{Changes}
use Rattle.ev_retirement.specs.Pictures.{published_answer, shown_after}
use Rattle.ev_worker.specs.Batches.{entries_of}
use Rattle.ev_worker.specs.Workers.{AreAnswered, IsToldBy}
use Rattle.ev_worker.specs.declared.lines.BatchLine.{BatchLine}
use Rattle.ev_retirement.specs.Holders.{HoldersParts, AreNumbered, HoldsFor, timed_out, timeout_answer, with_retired}

-- this holds of whatever world is represented
abbrev pub IsSoWherever : (World → Type 0) → HoldersParts → Type 0
IsSoWherever fact holders = (world : World) → HoldsFor holders world → fact world

-- whatever world is represented, this is the answer of the question about it
abbrev pub IsAnswerOf : {A : Type 0} → (World → A) → HoldersParts → A → Type 0
IsAnswerOf question holders answer = (world : World) → HoldsFor holders world → answer ≡ question world

-- whatever world the first represent, the second represent what the change makes of it
abbrev pub StandsAfter : (World → World) → HoldersParts → HoldersParts → Type 0
StandsAfter change before after = (world : World) → HoldsFor before world → HoldsFor after (change world)

-- at whatever world is represented, where these changes lead to what workers may serve, the machine answers a
-- publication with this version
abbrev pub AnswersPublication : Changes → HoldersParts → Option ℕ → Type 0
AnswersPublication changes holders version = (world : World) → HoldsFor holders world
    → shown_after changes holders.pictures ≡ shown_of world → (publish world).1 ≡ published_answer version

-- likewise the second represent the world that a publication leaves
abbrev pub Publishes : Changes → HoldersParts → HoldersParts → Type 0
Publishes changes before after =
    (world : World) → HoldsFor before world → shown_after changes before.pictures ≡ shown_of world → HoldsFor after (publish world).0

-- at whatever world is represented, the machine answers the drain timeout of this name so
abbrev pub AnswersTimeout : List ℕ → HoldersParts → Bool → Type 0
AnswersTimeout name holders meant = IsSoWherever (λ world. (drain_timeout name world).1 ≡ timeout_answer meant) holders

-- and leaves this world
abbrev pub LeavesTimeout : List ℕ → HoldersParts → Bool → Type 0
LeavesTimeout name holders meant = IsSoWherever (λ world. (drain_timeout name world).0 ≡ timed_out meant name world) holders

-- at whatever world is represented, the machine answers a settle of this worker so: these connections are closed, these
-- have moved, and this is the version of the last picture
abbrev pub AnswersSettle : ℕ → List ℕ → List ℕ → ℕ → HoldersParts → Type 0
AnswersSettle worker closed moved version holders =
    IsSoWherever (λ world. (settle worker world).1 ≡ settled_answer closed moved version) holders

-- and these are the connections that it closes and moves there, and this is the last picture
abbrev pub IsTold : ℕ → List ℕ → List ℕ → Picture → HoldersParts → Type 0
IsTold worker closed moved picture holders = IsSoWherever (IsToldBy worker closed moved picture) holders

-- Whatever world the first represent, the second represent it once a live row in it, of this kind, number and name,
-- is retired.
abbrev pub Retires : Kind → ℕ → List ℕ → Bool → HoldersParts → HoldersParts → Type 0
Retires kind number name dropped holders left =
    (world : World) (before after : List GenRow) (row : GenRow) → HoldsFor holders world → world.rows ≡ before ++ row ∷ after
    → is_live row.status ≡ true → row.kind ≡ kind → row.number ≡ number → row.name ≡ name
    → HoldsFor left (with_retired dropped before row after world)

-- whatever world the first represent, if these are the numbers of its dead generations, the second represent it
-- without those
abbrev pub Reaps : List ℕ → HoldersParts → HoldersParts → Type 0
Reaps dead before after = (format : Format) (world : World) → HoldsFor before world → AreNumbered world.rows
    → dead ≡ dead_numbers format world → HoldsFor after (without_dead format world)

-- whatever world the first represent, where the worker's lines are answered as they are in it, the second represent
-- the world after them
abbrev pub TakesOver : ℕ → List BatchLine → HoldersParts → HoldersParts → Type 0
TakesOver worker lines before after =
    (format : Format) (world : World) (picture : Picture) → HoldsFor before world → AreAnswered format worker world lines
    → HoldsFor after (world_after format world (entries_of worker picture lines))
