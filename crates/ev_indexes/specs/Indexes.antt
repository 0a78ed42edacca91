-- What the indexes of the table say: each look-up is a search of the rows.
use Rattle.std.specs.Prelude.{◌≡◌, ◌<◌, ℕ, Bool, true, false, ◌&&◌, List, [], ◌++◌, Option, Some, None, IfSome, filter, option_to_list}
use Rattle.ev_types.specs.Statuses.{is_warming, is_active, is_live}
use Rattle.ev_types.specs.declared.rows.RowStatus.{RowStatus}
use Rattle.ev_types.specs.declared.rows.RowStatus.TheVariants.{Dropped}
use Rattle.ev_types.specs.declared.rows.GenRow.{GenRow}
use Rattle.ev_types.specs.declared.hosts.Host.{Host}
use Rattle.ev_types.specs.declared.hosts.SocketAddress.{SocketAddress}
use Rattle.ev_types.specs.declared.contents.Content.{Content}
use Rattle.ev_types.specs.declared.contents.Kind.TheVariants.{Cds}
use Rattle.ev_types.specs.Hosts.{HostRowParts}
use Rattle.ev_model.specs.Warming.{is_checked}
use Rattle.ev_model.specs.Rows.{is_row_of}
use Rattle.ev_model.specs.Watching.{dependencies_of}
use Rattle.ev_indexes.specs.KeptEndpoints.{result_in, marked_in}
use Rattle.ev_indexes.specs.Tables.{IsTable, numbers_of, row_in}
use Rattle.ev_lookups.specs.Keys.{named}
use Rattle.ev_lookups.specs.declared.kind_keys.Key.{Key}
use Rattle.ev_indexes.specs.Addresses.{numbers_at, listens_at}
use Rattle.ev_indexes.specs.Due.{is_one_of}
use Rattle.ev_indexes.specs.Standings.{standing_in}
use Rattle.ev_indexes.specs.Watched.{WatchesKept, watch_in}
use Rattle.ev_indexes.specs.Needs.{is_needed, is_needed_so}
use Rattle.ev_indexes.specs.Ready.{assignment_in, is_due_at}
use Rattle.ev_indexes.specs.declared.state.State.{State}

-- a live row depends on the name
abbrev pub depends_on : Key → GenRow → Bool
depends_on key row = is_live row.status && is_needed key (dependencies_of row.content)

-- a live row waits for the name with this mark: whether its wait ends at the initial fetch timeout
abbrev pub waits : Key → Bool → GenRow → Bool
waits key limited row = is_live row.status && is_needed_so key limited (dependencies_of row.content)

-- the row is of this kind and name
abbrev pub is_of : Key → GenRow → Bool
is_of key row = is_row_of key.kind key.name row

-- the row serves the name
abbrev pub serves : Key → GenRow → Bool
serves key row = is_active row.status && is_of key row

-- the row warms under the name
abbrev pub warms : Key → GenRow → Bool
warms key row = is_warming row.status && is_of key row

-- the row holds the address: it is live and listens there
abbrev pub holds : SocketAddress → GenRow → Bool
holds address row = is_live row.status && listens_at address row.content

-- the numbers of the rows that pass the test, in order
abbrev pub numbers_where : (GenRow → Bool) → List GenRow → List ℕ
numbers_where test rows = numbers_of (filter test rows)

-- the numbers of the live rows that depend on the name:
-- of those that wait without a limit, and then of those that wait within one
abbrev pub numbers_waiting : List GenRow → Key → List ℕ
numbers_waiting rows key = numbers_where (waits key false) rows ++ numbers_where (waits key true) rows

-- a row is found, and it passes
abbrev pub passes : (GenRow → Bool) → Option GenRow → Bool
passes test None = false
passes test (Some row) = test row

-- the status of a row that is found
abbrev pub status_in : Option GenRow → RowStatus
status_in None = Dropped
status_in (Some row) = row.status

-- a row's kind and name
abbrev pub key_of_row : GenRow → Key
key_of_row row = named row.kind row.name

-- the same of a row that is found
abbrev pub key_in : Option GenRow → Key
key_in None = named Cds []
key_in (Some row) = key_of_row row

-- what was received for names is the same
abbrev pub SameMarks : WatchesKept → WatchesKept → Type 0
SameMarks old new = (key : Key) →
    ((watch_in new key).told ≡ (watch_in old key).told) × ((watch_in new key).timed ≡ (watch_in old key).timed) × ((watch_in new key).value ≡ (watch_in old key).value)

-- hosts of a generation of this content are health checked, and these rows are its assignment
abbrev pub IsAssignmentOf : WatchesKept → Content → List HostRowParts → Type 0
IsAssignmentOf watches content rows = (is_checked content ≡ true) × (rows ≡ assignment_in watches content)

-- rows that are marked for the live generation of this number are its assignment
abbrev pub MarksAssignment : State → ℕ → Type 0
MarksAssignment s number = (row : GenRow) → row_in number s.table.rows ≡ Some row → is_live row.status ≡ true
    → IfSome (marked_in s.results number) (IsAssignmentOf s.watches row.content)

-- each index is a search of the rows, and of no number that wasn't allocated there are results or marks
pub record IsIndexed (s : State) : Type 0 where
  pub table : IsTable s.table
  pub active : (key : Key) → option_to_list (standing_in s.names key).active ≡ numbers_where (serves key) s.table.rows
  pub warming : (key : Key) → option_to_list (standing_in s.names key).warming ≡ numbers_where (warms key) s.table.rows
  pub unlimited : (key : Key) → (watch_in s.watches key).unlimited ≡ numbers_where (waits key false) s.table.rows
  pub limited : (key : Key) → (watch_in s.watches key).limited ≡ numbers_where (waits key true) s.table.rows
  pub holders : (address : SocketAddress) → numbers_at s.addresses address ≡ numbers_where (holds address) s.table.rows
  pub due : (number : ℕ) → is_one_of s.due number ≡ is_due_at s.watches s.results number s.table.rows
  pub drawn : (number : ℕ) (host : Host) → s.table.made < number → result_in s.results number host ≡ None
  pub unmarked : (number : ℕ) → s.table.made < number → marked_in s.results number ≡ None
