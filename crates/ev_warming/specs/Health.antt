-- Which generations a health result is for, and what it does to what is kept: the machine's words, where what came is
-- looked up. Source: cluster manager warming of Envoy's documentation: a checked cluster waits for a first result of
-- each host.
use Rattle.std.specs.Prelude.{◌≡◌, ◌⊎◌, ℕ, Bool, true, ◌&&◌, nat_eq, if◌then◌else◌, List, [], Option, Some, IfSome, option_and_then, option_to_list}
use Rattle.std.specs.List.{list_any}
use Rattle.ev_types.specs.SameHosts.{host_same}
use Rattle.ev_types.specs.Statuses.{is_live}
use Rattle.ev_types.specs.declared.contents.Kind.TheVariants.{Cds}
use Rattle.ev_types.specs.declared.hosts.Host.{Host}
use Rattle.ev_types.specs.declared.rows.GenRow.{GenRow}
use Rattle.ev_model.specs.Rows.{is_row_of}
use Rattle.ev_indexes.specs.KeptEndpoints.{ResultsKept, marked_in, result_in}
use Rattle.ev_indexes.specs.Tables.{row_in}
use Rattle.ev_indexes.specs.declared.state.State.{State}
use Rattle.ev_indexes.specs.Due.{is_one_of}
use Rattle.ev_indexes.specs.Watched.{WatchesKept}
use Rattle.ev_indexes.specs.Ready.{takes_result}
use Rattle.ev_indexes.specs.Indexes.{IsAssignmentOf, MarksAssignment, passes, numbers_where}
use Rattle.ev_types.specs.declared.contents.Content.{Content}

-- there is a row of this number, where there is a number, and it takes a result of the host
abbrev pub takes_at : WatchesKept → Host → Option ℕ → List GenRow → Bool
takes_at watches host number rows =
    passes (λ (row : GenRow). takes_result watches host row.content) (option_and_then (λ n. row_in n rows) number)

-- a result of the host is for this row: a live cluster of the name
abbrev pub is_meant_in : WatchesKept → List ℕ → Host → GenRow → Bool
is_meant_in watches name host row = is_live row.status && is_row_of Cds name row && takes_result watches host row.content

-- the numbers of the rows that a result of the host is for
abbrev pub numbers_meant : WatchesKept → List ℕ → Host → List GenRow → List ℕ
numbers_meant watches name host rows = numbers_where (is_meant_in watches name host) rows

-- each of these numbers has this result of the host, and every other result stays
abbrev pub NotesEach : ResultsKept → ResultsKept → List ℕ → Host → Bool → Type 0
NotesEach old new numbers host healthy =
    (n : ℕ) (h : Host) → result_in new n h ≡ (if is_one_of numbers n && host_same host h then Some healthy else result_in old n h)

-- a result of the host is for a row of the state
abbrev pub is_meant_by : State → List ℕ → Host → Bool
is_meant_by s name host = list_any (is_meant_in s.watches name host) s.table.rows

-- each row that a result of the host is for has it, and every other result stays
abbrev pub NotesMeant : State → State → List ℕ → Host → Bool → Type 0
NotesMeant old new name host healthy = NotesEach old.results new.results (numbers_meant old.watches name host old.table.rows) host healthy

-- where it is meant, the generation of this number has this result of the host, and every other result stays
abbrev pub NotesWhere : State → State → Bool → Option ℕ → Host → Bool → Type 0
NotesWhere old new meant number host healthy =
    NotesEach old.results new.results (if meant then option_to_list number else []) host healthy

-- of each number the rows are marked that were, or, where it is this number, those of the content's assignment
abbrev pub MayMarkOwn : WatchesKept → Content → ResultsKept → ResultsKept → ℕ → Type 0
MayMarkOwn watches content old new number = (n : ℕ) → (marked_in new n ≡ marked_in old n)
    ⊎ ((nat_eq number n ≡ true) × IfSome (marked_in new n) (IsAssignmentOf watches content))

-- where rows were marked that are the assignment of their live generation, so it is
abbrev pub MarksAssignments : State → State → Type 0
MarksAssignments old new = (number : ℕ) → MarksAssignment old number → MarksAssignment new number
