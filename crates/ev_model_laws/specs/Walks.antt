-- A walk over a journal's rows, place by place: what is known as long as nothing is found. This project's own.
use Rattle.std.specs.Prelude.{ℕ, ◌≡◌, ◌+◌, ◌<◌, ◌≤◌, Bool, false, ◌&&◌, IsTrue, if◌then◌else◌, List, [], ◌∷◌, ◌++◌, take, length, Some, None, slice_get}
use Rattle.std.specs.List.{list_any, prefix_len, AllByRecursion}
use Rattle.ev_types.specs.Scripts.{ScriptParts, IsScript}
use Rattle.ev_types.specs.Events.{MayMake}
use Rattle.ev_types.specs.declared.events.Actor.{Actor}
use Rattle.ev_types.specs.declared.events.Entry.{Entry}
use Rattle.ev_types.specs.declared.journals.Format.{Format}
use Rattle.ev_types.specs.declared.journals.Format.TheVariants.{One, Two}
use Rattle.ev_types.specs.declared.journals.Row.{Row}
use Rattle.ev_types.specs.declared.journals.Finding.{Finding}
use Rattle.ev_types.specs.declared.journals.Finding.TheVariants.{IllegalAt, NotTheScript}
use Rattle.ev_model.specs.World.{World, opening}
use Rattle.ev_model_laws.specs.Drawing.{NumbersSuffice}
use Rattle.ev_model.specs.Runs.{world_after}
use Rattle.ev_model.specs.Operations.{Operation, actor_same, is_settle, entry_of, operation_of, rests_behind}
use Rattle.ev_model.specs.Finding.{tells_of, entry_told, journal_told, operations_left, is_resting, row_finding, is_wrong, finding_at, end_finding, finding_of}

-- the journal of the rows before a place
abbrev pub journal_before : ScriptParts → List Row → ℕ → List Entry
journal_before script rows place = journal_told script (take place rows)

-- nothing is found at any earlier place
abbrev pub NothingFound : Format → ScriptParts → List Row → ℕ → Type 0
NothingFound format script rows place = (earlier : ℕ) → earlier < place → finding_at format script rows earlier ≡ None

-- whether settles may be left out of an actor that rests: in format 2
abbrev pub leaves_out : Format → Bool → Bool
leaves_out One rests = false
leaves_out Two rests = rests

-- after the journal settles of the actor may be left out
abbrev pub may_leave_out : Format → ScriptParts → List Entry → Actor → Bool
may_leave_out format script journal actor = leaves_out format (is_resting format script journal actor)

-- the first of the operations that the row records comes next of these:
-- settles alone come before it, and these may be left out
pub record ComesNext (row : Row) (rests : Bool) (os : List Operation) (o : Operation) : Type 0 where
  pub tells : IsTrue (tells_of row o)
  pub skipped : List Operation
  pub behind : List Operation
  pub whole : skipped ++ o ∷ behind ≡ os
  pub settles : AllByRecursion (λ (p : Operation). IsTrue (is_settle p.event && rests)) skipped

-- what comes next for the row's actor after the journal
abbrev pub IsNextFor : Format → ScriptParts → List Entry → Row → Operation → Type 0
IsNextFor format script journal row o =
    ComesNext row (may_leave_out format script journal row.actor) (operations_left script journal row.actor) o

-- the world after the journal
abbrev pub world_behind : Format → ScriptParts → List Entry → World
world_behind format script journal = world_after format (opening script.workers script.node) journal

-- what is found of a journal is what is found at the first place where there is anything, or after the last row
pub record FindsTheFirst : Type 0 where
  pub place : (format : Format) (script : ScriptParts) (rows : List Row) (place : ℕ) (found : Finding) → place < length rows
      → NothingFound format script rows place → finding_at format script rows place ≡ Some found → finding_of format script rows ≡ found
  pub end : (format : Format) (script : ScriptParts) (rows : List Row) → NothingFound format script rows (length rows)
      → finding_of format script rows ≡ end_finding format script rows

-- the operations that may come next of these: the first, and each after settles that may be left out
abbrev pub next_of : Bool → List Operation → List Operation
next_of rests os = take ((if rests then prefix_len (λ (o : Operation). is_settle o.event) os else 0) + 1) os

-- a row that records none that may come next isn't the script's
abbrev pub FindsStrays : Type 0
FindsStrays =
    (format : Format) (script : ScriptParts) (journal : List Entry) (number : ℕ) (row : Row)
    → list_any (tells_of row) (next_of (may_leave_out format script journal row.actor) (operations_left script journal row.actor)) ≡ false
    → row_finding format script journal number row ≡ Some (NotTheScript number)

-- a row that records this operation is its entry, of which nothing is found but by its answer and its batch
pub record IsTaken (format : Format) (script : ScriptParts) (journal : List Entry) (row : Row) (o : Operation) : Type 0 where
  pub actor : o.actor ≡ row.actor
  pub allowed : MayMake script.workers o.actor o.event
  pub entry : entry_told script row ≡ Some (entry_of o row.answer)
  pub finding : (number : ℕ) → row_finding format script journal number row
      ≡ (if is_wrong format script journal (entry_of o row.answer) then Some (IllegalAt number) else None)

-- what comes next for a row is taken so
abbrev pub TakesNext : Type 0
TakesNext =
    (format : Format) (script : ScriptParts) (journal : List Entry) (row : Row) (o : Operation) → IsScript script
    → IsNextFor format script journal row o → IsTaken format script journal row o

-- an entry more changes of its own actor alone what is left, and whether settles may be left out
pub record MovesOn : Type 0 where
  pub left : (format : Format) (script : ScriptParts) (journal : List Entry) (row : Row) (o : Operation) → IsScript script
      → (next : IsNextFor format script journal row o)
      → operations_left script (journal ++ entry_of o row.answer ∷ []) row.actor ≡ next.behind
  pub rests : (format : Format) (script : ScriptParts) (journal : List Entry) (entry : Entry)
      → may_leave_out format script (journal ++ entry ∷ []) entry.actor
      ≡ leaves_out format (rests_behind (world_behind format script (journal ++ entry ∷ [])) (operation_of entry))
  pub left_alone : (script : ScriptParts) (journal : List Entry) (entry : Entry) (actor : Actor) → actor_same entry.actor actor ≡ false
      → operations_left script (journal ++ entry ∷ []) actor ≡ operations_left script journal actor
  pub rests_alone : (format : Format) (script : ScriptParts) (journal : List Entry) (entry : Entry) (actor : Actor) → actor_same entry.actor actor ≡ false
      → may_leave_out format script (journal ++ entry ∷ []) actor ≡ may_leave_out format script journal actor

-- while nothing is found, the numbers of generations suffice for what comes next
abbrev pub NumbersLast : Type 0
NumbersLast =
    (format : Format) (script : ScriptParts) (rows : List Row) (place : ℕ) (row : Row) (o : Operation) → IsScript script → place ≤ length rows
    → NothingFound format script rows place → IsNextFor format script (journal_before script rows place) row o
    → NumbersSuffice (world_behind format script (journal_before script rows place)) o.event

-- nothing more is found where a row is right: the journal has its entry more
abbrev pub GoesOn : Type 0
GoesOn =
    (script : ScriptParts) (rows : List Row) (place : ℕ) (row : Row) (entry : Entry) → slice_get rows place ≡ Some row
    → entry_told script row ≡ Some entry → journal_before script rows (place + 1) ≡ journal_before script rows place ++ entry ∷ []
