-- What an actor is to do, and the operation that it is. This project's own.
use Rattle.std.specs.Prelude.{ℕ, ◌≡◌, ◌+◌, ◌&&◌, ◌==◌, Bool, if◌then◌else◌, List, [], ◌∷◌, map, Option, None, Some, slice_get, nat_lt}
use Rattle.ev_types.specs.Scripts.{ScriptParts}
use Rattle.ev_types.specs.declared.events.Actor.{Actor}
use Rattle.ev_types.specs.declared.events.Actor.TheVariants.{Stream, Health, Timer, Main, Worker}
use Rattle.ev_types.specs.declared.events.Event.TheVariants.{Publish as publish, Reap as reap, Settle as settle}
use Rattle.ev_types.specs.declared.events.Line.{Line}
use Rattle.ev_model.specs.Runs.{is_batched}
use Rattle.ev_model.specs.Operations.{Operation, batch_limit, is_automatic, is_settle, line_operation, step_behind}
use Rattle.ev_operations.specs.declared.due.Due.{Due}
use Rattle.ev_operations.specs.declared.due.Due.TheVariants.{Line as by_line, Publish, Reap, Settle, LastSettle}

-- the operation of a line that is there
abbrev pub at_line : (Line → Operation) → Option Line → Option Operation
at_line operation None = None
at_line operation (Some line) = Some (operation line)

-- the operation that an actor is to do
abbrev pub operation_due : ScriptParts → Actor → Due → Option Operation
operation_due script actor (by_line place) = at_line line_operation (slice_get script.lines place)
operation_due script actor (Publish place) = at_line (λ (line : Line). step_behind line 1 publish) (slice_get script.lines place)
operation_due script actor (Reap place) = at_line (λ (line : Line). step_behind line 2 reap) (slice_get script.lines place)
operation_due script actor (Settle place) = at_line (λ (line : Line). step_behind line 1 settle) (slice_get script.lines place)
operation_due script actor LastSettle = Some (record { actor = actor; at = script.count + 1; step = 0; event = settle })

-- what an actor is to do are these operations, in order
abbrev pub AreDue : ScriptParts → Actor → List Due → List Operation → Type 0
AreDue script actor dues operations = map (operation_due script actor) dues ≡ map Some operations

-- the accept or close is one more than this many that wait, and makes the batch full
abbrev pub makes_full : Line → ℕ → Bool
makes_full line waiting = is_batched line.event && (waiting + 1 == batch_limit)

-- what the actor of a line is to do at it, where this many of its accepts and closes wait
abbrev pub dues_at : Bool → ℕ → Line → ℕ → List Due
dues_at auto place line waiting =
    by_line place ∷ (if auto && is_automatic line.actor then Publish place ∷ Reap place ∷ []
    else (if makes_full line waiting then Settle place ∷ [] else []))

-- how many accepts and closes of the line's actor wait after it
abbrev pub waiting_after : Line → ℕ → ℕ
waiting_after line waiting =
    if is_batched line.event then (if makes_full line waiting then 0 else waiting + 1)
    else (if is_settle line.event then 0 else waiting)

-- what an actor is to do after the last line, where there are this many workers: each of these settles
abbrev pub last_dues : ℕ → Actor → List Due
last_dues workers Stream = []
last_dues workers Health = []
last_dues workers Timer = []
last_dues workers Main = []
last_dues workers (Worker worker) = if nat_lt worker workers then LastSettle ∷ [] else []
