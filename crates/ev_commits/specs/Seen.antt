-- What a pass at the gate has seen of the journal. This project's own.
use Rattle.std.specs.Prelude.{ℕ, ◌≡◌, ◌<◌, ◌≤◌, ◌==◌, ◌||◌, ◌&&◌, Bool, true, false, List, [], ◌∷◌, ◌++◌}
use Rattle.std.specs.List.{list_any}
use Rattle.ev_types.specs.declared.events.Entry.{Entry}
use Rattle.ev_model.specs.World.{OpenMember}
use Rattle.ev_model.specs.Dead.{is_open_on, last_picture}
use Rattle.ev_model.specs.Picture.{has_number, is_shown}
use Rattle.ev_model_laws.specs.Kept.{numbers_gone}
use Rattle.ev_model.specs.Runs.{IsRun}
use Rattle.ev_actors.specs.Journals.{JournalParts, entries_made, world_now}
use Rattle.ev_types.specs.declared.events.Actor.TheVariants.{Worker}
use Rattle.ev_model.specs.Operations.{Operation}
use Rattle.ev_worker.specs.Workers.{HasNoneOpen, WorkerParts}
use Rattle.ev_actors.specs.Taken.{HasEntered, HasSettled}
use Rattle.ev_gate.specs.History.{seen_of}
use Rattle.ev_gate.specs.Words.{first_of, pass_heard, pass_knows}
use Rattle.ev_gate.specs.declared.gate.Gate.{Gate}
use Rattle.ev_gate.specs.declared.gate.Pass.{Pass}
use Rattle.ev_gate.specs.declared.stands.Stands.{Ghosts}
use Rattle.ev_commits.specs.Commits.{GrowsByOthers, commits_of, entries_in, seat_of}
use Rattle.ev_commits.specs.declared.kept.Began.{Began}
use Rattle.ev_commits.specs.declared.kept.Kept.{Kept}

-- what the journal began as
abbrev pub began_as : JournalParts → Began
began_as parts = record { format = parts.format; workers = parts.workers; node = parts.node }

-- the journal of these commits
abbrev pub journal_with : Began → List (ℕ × List Entry) → JournalParts
journal_with began commits = record { format = began.format; workers = began.workers; node = began.node; journal = entries_in commits }

-- the version of the last picture after these commits
abbrev pub version_after : Began → List (ℕ × List Entry) → ℕ
version_after began commits = (last_picture (world_now (journal_with began commits))).version

-- the journal is a run of the machine, by the rules of its format
abbrev pub IsSound : JournalParts → Type 0
IsSound parts = IsRun parts.format parts.workers parts.node parts.journal

-- one commit of the seat is added, and no version falls
pub record CommitsOnce (seat : ℕ) (before after : JournalParts) : Type 0 where
  pub began : began_as after ≡ began_as before
  pub entries : List Entry
  pub commits : commits_of after.journal ≡ commits_of before.journal ++ (seat, entries) ∷ []
  pub forward : (last_picture (world_now before)).version ≤ (last_picture (world_now after)).version

module _ {J : Type 0} (shows : J → JournalParts) where
  -- what the gate's journal began as
  abbrev pub began_at : Gate (Kept J) Began (List Entry) → Began
  began_at gate = began_as (shows (first_of gate).journaled)

  module _ {g : Ghosts (Kept J) Began (List Entry)} where
    -- the journal that a pass of the gate has seen
    abbrev pub seen_by : Gate (Kept J) Began (List Entry) → Pass (Kept J) Began (List Entry) g → JournalParts
    seen_by gate pass = journal_with (began_at gate) (seen_of (pass_knows pass))

    -- the journal with the greatest version that the pass has heard of
    abbrev pub heard_by : Gate (Kept J) Began (List Entry) → Pass (Kept J) Began (List Entry) g → JournalParts
    heard_by gate pass = journal_with (began_at gate) (pass_heard pass)

-- an operation of the main side is entered, after entries of others
pub record HasActed (o : Operation) (before after : JournalParts) : Type 0 where
  pub turn : JournalParts
  pub grows : GrowsByOthers (seat_of o.actor) before turn
  pub entered : HasEntered o turn after

-- the picture that a worker serves from shows the generation of this number, or a connection of its own is open on it
abbrev pub is_named_by : WorkerParts → ℕ → Bool
is_named_by worker number =
    is_shown number worker.picture.shown || list_any (λ (m : OpenMember). (m.worker == worker.number) && is_open_on number m) worker.opened

-- nothing that a worker names was reaped in this journal before the worker's settle
abbrev pub NamesNothingGone : WorkerParts → JournalParts → Type 0
NamesNothingGone worker turn =
    (number : ℕ) → is_named_by worker number ≡ true → has_number number (numbers_gone (turn.journal ++ entries_made worker)) ≡ false

-- a worker's batch and its settle are entered, after entries of others, and nothing that it names was reaped before
pub record HasCommitted (at step : ℕ) (before after : JournalParts) (old new : WorkerParts) : Type 0 where
  pub turn : JournalParts
  pub grows : GrowsByOthers (seat_of (Worker old.number)) before turn
  pub settled : HasSettled at step turn after old new
  pub alive : NamesNothingGone old turn

-- the version of the last picture after this journal
abbrev pub version_shown : JournalParts → ℕ
version_shown parts = (last_picture (world_now parts)).version

-- the journal that was heard of has no older version than the one that was seen
abbrev pub HasHeard : JournalParts → JournalParts → Type 0
HasHeard seen heard = version_shown seen ≤ version_shown heard

-- the worker did nothing since it settled, and has nothing open
abbrev pub IsIdle : WorkerParts → Type 0
IsIdle worker = (worker.lines ≡ []) × HasNoneOpen worker

-- where the worker is idle, its picture is older than the last one after this journal
abbrev pub LearnsAtRest : JournalParts → WorkerParts → Type 0
LearnsAtRest after worker = IsIdle worker → worker.picture.version < version_shown after

-- a settle is left out: the worker is idle, and its picture's version is not below any that its pass had heard of
pub record IsLeftOut (before after heard : JournalParts) (old new : WorkerParts) : Type 0 where
  pub seen : after ≡ before
  pub same : new ≡ old
  pub idle : IsIdle old
  pub newest : version_shown heard ≤ old.picture.version
