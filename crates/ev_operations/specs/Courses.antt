-- How far the actors of a script have come after a journal. This project's own.
use Rattle.std.specs.Prelude.{ℕ, ◌≡◌, ◌+◌, ◌≤◌, ◌&&◌, Bool, true, false, not, List, drop, length, Some, option_map, slice_get, slice_set, unwrap_or}
use Rattle.ev_types.specs.Scripts.{ScriptParts}
use Rattle.ev_types.specs.declared.events.Actor.{Actor}
use Rattle.ev_types.specs.declared.events.Actor.TheVariants.{Stream, Health, Timer, Main, Worker}
use Rattle.ev_types.specs.declared.events.Entry.{Entry}
use Rattle.ev_types.specs.declared.events.Line.{Line}
use Rattle.ev_types.specs.declared.journals.Format.{Format}
use Rattle.ev_types.specs.declared.journals.Row.{Row}
use Rattle.ev_model.specs.Operations.{Operation, is_settle, operations_of}
use Rattle.ev_model.specs.Finding.{operations_left, tells_of}
use Rattle.ev_operations.specs.Dues.{AreDue, operation_due}
use Rattle.ev_operations.specs.declared.due.Due.{Due}
use Rattle.ev_operations.specs.declared.due.Due.TheVariants.{Line as by_line, Publish, Reap, Settle, LastSettle}
use Rattle.ev_model_laws.specs.Walks.{ComesNext, IsNextFor, leaves_out, may_leave_out}
use Rattle.ev_operations.specs.declared.course.Course.{Course}
use Rattle.ev_operations.specs.declared.courses.Courses.{Courses}
use Rattle.ev_operations.specs.declared.courses.Found.{Found}

-- the row records what is due
abbrev pub tells_due : ScriptParts → Row → Due → Bool
tells_due script row due = unwrap_or (option_map (tells_of row) (operation_due script row.actor due)) false

-- what is due is a settle
abbrev pub is_settle_due : ScriptParts → Due → Bool
is_settle_due script (by_line place) = unwrap_or (option_map (λ (line : Line). is_settle line.event) (slice_get script.lines place)) false
is_settle_due script (Publish place) = false
is_settle_due script (Reap place) = false
is_settle_due script (Settle place) = true
is_settle_due script LastSettle = true

-- what is due may not be left out
abbrev pub is_left : ScriptParts → Bool → Due → Bool
is_left script rests due = not (rests && is_settle_due script due)

-- the actor is to do all that it has in the script, and has done nothing yet
pub record HasBegun (format : Format) (script : ScriptParts) (actor : Actor) (course : Course) : Type 0 where
  pub due : AreDue script actor course.dues (operations_of script actor)
  pub place : course.place ≡ 0
  pub rests : course.rests ≡ leaves_out format true

-- what is due of an actor is what is left of its operations after the journal,
-- and it is marked where settles may be left out
pub record HasCome (format : Format) (script : ScriptParts) (journal : List Entry) (actor : Actor) (course : Course) : Type 0 where
  pub within : course.place ≤ length course.dues
  pub due : AreDue script actor (drop course.place course.dues) (operations_left script journal actor)
  pub rests : course.rests ≡ may_leave_out format script journal actor

-- at this place of a course is what the row records, and it comes next of these operations
pub record IsFoundAt (script : ScriptParts) (row : Row) (course : Course) (os : List Operation) (place : ℕ) : Type 0 where
  pub due : Due
  pub there : slice_get course.dues place ≡ Some due
  pub operation : Operation
  pub is : operation_due script row.actor due ≡ Some operation
  pub next : ComesNext row course.rests os operation
  pub left : AreDue script row.actor (drop (place + 1) course.dues) next.behind

-- the seat of an actor
abbrev pub seat_of : Actor → ℕ
seat_of Stream = 0
seat_of Health = 1
seat_of Timer = 2
seat_of Main = 3
seat_of (Worker worker) = 4 + worker

-- after the journal each actor has come so far, at its seat, and no one else has a seat
pub record HaveCome (script : ScriptParts) (journal : List Entry) (courses : Courses) : Type 0 where
  pub count : length courses.seats.items ≡ 4 + script.workers
  pub each : (actor : Actor) (course : Course) → slice_get courses.seats.items (seat_of actor) ≡ Some course
      → HasCome courses.format script journal actor course

-- at the seat of the row's actor is what the row records, and it comes next after the journal
pub record IsFound (script : ScriptParts) (journal : List Entry) (row : Row) (courses : Courses) (found : Found) : Type 0 where
  pub seat : found.seat ≡ seat_of row.actor
  pub course : Course
  pub seated : slice_get courses.seats.items found.seat ≡ Some course
  pub there : slice_get course.dues found.place ≡ Some found.due
  pub operation : Operation
  pub is : operation_due script row.actor found.due ≡ Some operation
  pub next : IsNextFor courses.format script journal row operation
  pub left : AreDue script row.actor (drop (found.place + 1) course.dues) next.behind

-- the course at the seat goes on after what was found, with this mark, and no other changes
pub record HaveMoved (found : Found) (rests : Bool) (before after : Courses) : Type 0 where
  pub format : after.format ≡ before.format
  pub moved : (course : Course) → slice_get before.seats.items found.seat ≡ Some course
      → after.seats.items ≡ slice_set before.seats.items found.seat (record course { place = found.place + 1; rests = rests })
