-- One pass over the lines of a script. Accepts and closes wait until their worker settles,
-- and all else goes out at once. This project's own.
use Rattle.std.specs.Prelude.{ℕ, ◌≡◌, Bool, not, ◌&&◌, ◌==◌, if◌then◌else◌, List, [], ◌∷◌, ◌++◌, filter, length}
use Rattle.std.specs.List.{flat_map, range_with_len}
use Rattle.ev_types.specs.Scripts.{ScriptParts, IsScript}
use Rattle.ev_types.specs.declared.events.Actor.{Actor}
use Rattle.ev_types.specs.declared.events.Actor.TheVariants.{Worker}
use Rattle.ev_types.specs.declared.events.Event.TheVariants.{Publish, Reap, Settle}
use Rattle.ev_types.specs.declared.events.Line.{Line}
use Rattle.ev_model.specs.Runs.{is_batched}
use Rattle.ev_model.specs.Operations.{Operation, line_operation, step_behind, last_settle, actor_same, is_automatic, is_settle, batch_limit, replay_operations}

-- of the accepts and closes that wait, an actor's
abbrev pub waiting_of : Actor → List Operation → List Operation
waiting_of actor waiting = filter (λ (o : Operation). actor_same o.actor actor) waiting

-- of the accepts and closes that wait, those of the others
abbrev pub waiting_without : Actor → List Operation → List Operation
waiting_without actor waiting = filter (λ (o : Operation). not (actor_same o.actor actor)) waiting

-- what waits once the accept or close of a line has joined
abbrev pub joined_by : Line → List Operation → List Operation
joined_by line waiting = waiting ++ line_operation line ∷ []

-- with this accept or close as many of its worker wait as a batch may have
abbrev pub is_filled_by : Line → List Operation → Bool
is_filled_by line waiting = length (waiting_of line.actor (joined_by line waiting)) == batch_limit

-- what follows a line that is no accept, close or settle: with `auto` a publication and a reaping
abbrev pub automatic_behind : Bool → Line → List Operation
automatic_behind auto line =
    if auto && is_automatic line.actor then step_behind line 1 Publish ∷ step_behind line 2 Reap ∷ [] else []

-- What goes out at a line. At an accept or close nothing, but where the batch
-- of its worker is full: then the batch, with a settle after it. At a settle its worker's batch, and the settle.
-- At any other line the line, and what follows it.
abbrev pub put_out : Bool → List Operation → Line → List Operation
put_out auto waiting line =
    if is_batched line.event then (if is_filled_by line waiting then waiting_of line.actor (joined_by line waiting) ++ step_behind line 1 Settle ∷ [] else [])
    else (if is_settle line.event then waiting_of line.actor waiting ++ line_operation line ∷ [] else line_operation line ∷ automatic_behind auto line)

-- what waits after a line
abbrev pub waiting_behind : List Operation → Line → List Operation
waiting_behind waiting line =
    if is_batched line.event then (if is_filled_by line waiting then waiting_without line.actor waiting else joined_by line waiting)
    else (if is_settle line.event then waiting_without line.actor waiting else waiting)

-- what goes out for a worker after the last line: its batch, and its last settle
abbrev pub put_out_last : ScriptParts → List Operation → ℕ → List Operation
put_out_last script waiting worker = waiting_of (Worker worker) waiting ++ last_settle script worker ∷ []

-- what goes out from these lines on
abbrev pub one_pass : ScriptParts → List Operation → List Line → List Operation
one_pass script waiting [] = flat_map (put_out_last script waiting) (range_with_len 0 script.workers)
one_pass script waiting (line ∷ lines) = put_out script.auto waiting line ++ one_pass script (waiting_behind waiting line) lines

-- one pass gives a script's operations in the order of a replay
abbrev pub ReplaysInOnePass : Type 0
ReplaysInOnePass = (script : ScriptParts) → IsScript script → one_pass script [] script.lines ≡ replay_operations script
