-- The actors of a threaded run: what each begins with, what it knows when it is over,
-- and the whole. This project's own.
use Rattle.std.specs.Prelude.{ℕ, ◌≡◌, ◌<◌, Bool, true, List, [], length, get_or, Option, IsSomeAnd}
use Rattle.ev_types.specs.Events.{IsMainSide}
use Rattle.ev_types.specs.Scripts.{ScriptParts}
use Rattle.ev_types.specs.declared.events.Actor.{Actor}
use Rattle.ev_types.specs.declared.events.Actor.TheVariants.{Worker as by_worker}
use Rattle.ev_types.specs.declared.events.Entry.{Entry}
use Rattle.ev_types.specs.declared.journals.Format.TheVariants.{Two}
use Rattle.ev_model.specs.Dead.{last_picture}
use Rattle.ev_model.specs.Laws.{Laws}
use Rattle.ev_model.specs.Operations.{IsRunOf}
use Rattle.ev_gate.specs.Words.{first_of, gate_id, pass_gate, pass_knows}
use Rattle.ev_gate.specs.declared.gate.Gate.{Gate}
use Rattle.ev_gate.specs.declared.gate.Pass.{Pass}
use Rattle.ev_gate.specs.declared.stands.Stands.{Ghosts}
use Rattle.ev_actors.specs.Journals.{JournalParts, nothing_done, world_now}
use Rattle.ev_actors.specs.Resting.{IdleSettlesBringNews}
use Rattle.ev_actors.specs.Taken.{HasBegun}
use Rattle.ev_commits.specs.Commits.{seat_of}
use Rattle.ev_commits.specs.Seen.{HasHeard, heard_by, seen_by}
use Rattle.ev_commits.specs.declared.kept.Began.{Began}
use Rattle.ev_commits.specs.declared.kept.Kept.{Kept}
use Rattle.ev_run.specs.Acting.{HasEnded}
use Rattle.ev_run.specs.declared.player.Task.{Task}
use Rattle.ev_run.specs.declared.player.Task.TheVariants.{MainSide, Worker}

-- what an actor of a script begins with, at the seat of this number
abbrev pub IsTask : ScriptParts → ℕ → Task → Type 0
IsTask script seat (MainSide actor) = IsMainSide actor × (seat_of actor ≡ seat)
IsTask script seat (Worker worker) =
    (worker.number < script.workers) × (seat_of (by_worker worker.number) ≡ seat)
    × HasBegun worker.number (last_picture (world_now (nothing_done script))) worker

-- this holds for each of these, by its place
abbrev pub EachAt : {X : Type 0} → (ℕ → X → Type 0) → List X → Type 0
EachAt {X} P xs = (k : ℕ) (d : X) → k < length xs → P k (get_or xs k d)

module _ {J : Type 0} (shows : J → JournalParts) where
  -- the gate was made with a journal in which nothing of the script was done
  abbrev pub IsGateFor : ScriptParts → Gate (Kept J) Began (List Entry) → Type 0
  IsGateFor script gate = shows (first_of gate).journaled ≡ nothing_done script

  module _ {g : Ghosts (Kept J) Began (List Entry)} where
    -- a pass of this seat at this gate, which began with no commit and has heard of no older version than it has seen
    pub record IsPassAt (gate : Gate (Kept J) Began (List Entry)) (seat : ℕ) (pass : Pass (Kept J) Began (List Entry) g) : Type 0 where
      pub here : pass_gate pass ≡ gate_id gate
      pub number : (pass_knows pass).number ≡ seat
      pub start : (pass_knows pass).start ≡ []
      pub heard : HasHeard (seen_by shows gate pass) (heard_by shows gate pass)

    -- and it has seen nothing done
    pub record IsNewPass (script : ScriptParts) (gate : Gate (Kept J) Began (List Entry)) (seat : ℕ) (pass : Pass (Kept J) Began (List Entry) g) : Type 0 where
      pub at_gate : IsPassAt gate seat pass
      pub seen : seen_by shows gate pass ≡ nothing_done script

    -- an actor may begin at a gate of the script
    abbrev pub IsReady : ScriptParts → Gate (Kept J) Began (List Entry) → ℕ → Task → Option (Pass (Kept J) Began (List Entry) g) → Type 0
    IsReady script gate seat task pass = IsGateFor script gate × IsTask script seat task × IsSomeAnd pass (IsNewPass script gate seat)

    -- what a pass has seen holds all that its actor is to do, where the actor came to its end
    pub record IsOverAt (script : ScriptParts) (gate : Gate (Kept J) Began (List Entry)) (ended : Bool) (seat : ℕ) (pass : Pass (Kept J) Began (List Entry) g) : Type 0 where
      pub at_gate : IsPassAt gate seat pass
      pub over : ended ≡ true → (actor : Actor) → seat_of actor ≡ seat → HasEnded script actor (seen_by shows gate pass)

    -- an actor is over
    abbrev pub IsOver : ScriptParts → Gate (Kept J) Began (List Entry) → ℕ → Bool → Option (Pass (Kept J) Began (List Entry) g) → Type 0
    IsOver script gate seat ended pass = IsSomeAnd pass (IsOverAt script gate ended seat)

-- it has the script's workers and node, and its journal is a run of format 2
-- that holds each actor's operations of the script, and has the laws;
-- where a worker rests it has settled only on a newer picture, so the journal need be no replay's
pub record HasRun (script : ScriptParts) (parts : JournalParts) : Type 0 where
  pub format : parts.format ≡ Two
  pub workers : parts.workers ≡ script.workers
  pub node : parts.node ≡ script.node
  pub journal : IsRunOf Two script parts.journal
  pub laws : Laws record { format = Two; workers = script.workers; node = script.node; journal = parts.journal }
  pub news : IdleSettlesBringNews Two script.workers script.node parts.journal
