-- What is found of a journal that is held against its script, by the rules of its format. This project's own.
use Rattle.std.specs.Prelude.{ℕ, ◌+◌, Bool, true, false, not, ◌&&◌, ◌||◌, ◌==◌, nat_lt, if◌then◌else◌, List, filter, filter_map, find, take, length, Option, Some, None, option_map, option_and_then, slice_get, unwrap_or}
use Rattle.std.specs.List.{list_any, list_all, last_or, prefix_len, range_with_len}
use Rattle.ev_types.specs.Events.{op_of, op_same}
use Rattle.ev_types.specs.SameAnswers.{answer_same}
use Rattle.ev_types.specs.Scripts.{ScriptParts}
use Rattle.ev_types.specs.declared.events.Actor.{Actor}
use Rattle.ev_types.specs.declared.events.Entry.{Entry}
use Rattle.ev_types.specs.declared.journals.Format.{Format}
use Rattle.ev_types.specs.declared.journals.Format.TheVariants.{One, Two}
use Rattle.ev_types.specs.declared.journals.Row.{Row}
use Rattle.ev_types.specs.declared.journals.Finding.{Finding}
use Rattle.ev_types.specs.declared.journals.Finding.TheVariants.{Legal, IllegalAt, NotTheScript}
use Rattle.ev_model.specs.World.{opening}
use Rattle.ev_model.specs.Step.{step}
use Rattle.ev_model.specs.Runs.{world_after, is_batched}
use Rattle.ev_model.specs.Operations.{Operation, Deed, actor_same, is_settle, is_earlier, all_operations, operations_of, entries_of, entry_of, deeds_of}

-- the row that is written for an entry: it has the event's word, and not the event
abbrev pub row_of : Entry → Row
row_of entry = record { actor = entry.actor; at = entry.at; step = entry.step; op = op_of entry.event; answer = entry.answer }

-- the row records this operation
abbrev pub tells_of : Row → Operation → Bool
tells_of row o = (row.at == o.at) && (row.step == o.step) && op_same row.op (op_of o.event)

-- the operation of the script that a row records
abbrev pub operation_told : ScriptParts → Row → Option Operation
operation_told script row = find (tells_of row) (operations_of script row.actor)

-- the entry that a row is, where the script has its operation
abbrev pub entry_told : ScriptParts → Row → Option Entry
entry_told script row = option_map (λ o. entry_of o row.answer) (operation_told script row)

-- the journal that rows give with their script
abbrev pub journal_told : ScriptParts → List Row → List Entry
journal_told script rows = filter_map (entry_told script) rows

-- the operations of an actor that come after all of its entries
abbrev pub operations_left : ScriptParts → List Entry → Actor → List Operation
operations_left script journal actor =
    filter (λ o. list_all (λ done. is_earlier done o) (entries_of journal actor)) (operations_of script actor)

-- the actor rests after its last deed; before the first it rests
abbrev pub rests_by : Option Deed → Bool
rests_by None = true
rests_by (Some deed) = deed.rests

-- the actor rests after the journal
abbrev pub is_resting : Format → ScriptParts → List Entry → Actor → Bool
is_resting format script journal actor = rests_by (last_or None (deeds_of format script journal actor))

-- how many of these operations may be left out: in format 2, while the actor rests, the settles that come next
abbrev pub may_pass : Format → Bool → List Operation → ℕ
may_pass One resting os = 0
may_pass Two resting os = if resting then prefix_len (λ (o : Operation). is_settle o.event) os else 0

-- how many operations of an actor may be left out after the journal
abbrev pub passed : Format → ScriptParts → List Entry → Actor → ℕ
passed format script journal actor = may_pass format (is_resting format script journal actor) (operations_left script journal actor)

-- the operations of an actor that may come next after the journal:
-- the first one left, and each after those that may be left out
abbrev pub next_operations : Format → ScriptParts → List Entry → Actor → List Operation
next_operations format script journal actor = take (passed format script journal actor + 1) (operations_left script journal actor)

-- an operation of the actor is left that may not be left out
abbrev pub is_unfinished : Format → ScriptParts → List Entry → Actor → Bool
is_unfinished format script journal actor = nat_lt (passed format script journal actor) (length (operations_left script journal actor))

-- the row isn't the script's: it records no operation of its actor that may come next
abbrev pub is_stray : Format → ScriptParts → List Entry → Row → Bool
is_stray format script journal row = not (list_any (tells_of row) (next_operations format script journal row.actor))

-- the entry breaks into the batch of the one before it
abbrev pub breaks_batch : Option Entry → Entry → Bool
breaks_batch None entry = false
breaks_batch (Some before) entry = is_batched before.event && not (actor_same entry.actor before.actor)

-- after the journal the entry isn't answered as the machine answers it, or breaks into a batch
abbrev pub is_wrong : Format → ScriptParts → List Entry → Entry → Bool
is_wrong format script journal entry =
    not (answer_same entry.answer (step format (world_after format (opening script.workers script.node) journal) entry.actor entry.event).1)
    || breaks_batch (last_or None journal) entry

-- the row is an illegal entry after the journal
abbrev pub is_illegal : Format → ScriptParts → List Entry → Row → Bool
is_illegal format script journal row = unwrap_or (option_map (is_wrong format script journal) (entry_told script row)) false

-- what is found of the row of this number after the journal, if anything
abbrev pub row_finding : Format → ScriptParts → List Entry → ℕ → Row → Option Finding
row_finding format script journal number row =
    if is_stray format script journal row then Some (NotTheScript number)
    else (if is_illegal format script journal row then Some (IllegalAt number) else None)

-- what is found at a place of the rows, counted from 0: the journal is that of the rows before it
abbrev pub finding_at : Format → ScriptParts → List Row → ℕ → Option Finding
finding_at format script rows place =
    option_and_then (row_finding format script (journal_told script (take place rows)) (place + 1)) (slice_get rows place)

-- what is found after the last row: an operation is missing there, or nothing is wrong
abbrev pub end_finding : Format → ScriptParts → List Row → Finding
end_finding format script rows =
    if list_any (λ (o : Operation). is_unfinished format script (journal_told script rows) o.actor) (all_operations script)
    then NotTheScript (length rows + 1)
    else Legal

-- what is found of a journal: what is found at the first place where there is anything, or after the last row
abbrev pub finding_of : Format → ScriptParts → List Row → Finding
finding_of format script rows =
    unwrap_or (slice_get (filter_map (finding_at format script rows) (range_with_len 0 (length rows))) 0) (end_finding format script rows)
