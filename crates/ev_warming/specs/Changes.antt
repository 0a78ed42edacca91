-- How generations changed, by their rows before and after.
use Rattle.std.specs.Prelude.{◌≡◌, ℕ, Bool, true, false, not, ◌&&◌, ◌||◌, nat_le, if◌then◌else◌, List, [], length, Option, None, Some, option_to_list}
use Rattle.ev_types.specs.Items.{ResponseParts}
use Rattle.ev_types.specs.Kinds.{kind_same}
use Rattle.ev_types.specs.Statuses.{is_active, is_live}
use Rattle.ev_types.specs.declared.contents.Content.{Content}
use Rattle.ev_types.specs.declared.contents.Kind.{Kind}
use Rattle.ev_types.specs.declared.rows.RowStatus.{RowStatus}
use Rattle.ev_types.specs.declared.rows.GenRow.{GenRow}
use Rattle.ev_types.specs.declared.origins.KeptChain.{KeptChain}
use Rattle.ev_model.specs.Rows.{removed_status, with_statuses, rows_with_new}
use Rattle.ev_model.specs.Signals.{is_draining, rows_ended}
use Rattle.ev_model.specs.Verdicts.{items_named, is_among}
use Rattle.ev_indexes.specs.Tables.{row_in, with_status}
use Rattle.ev_lookups.specs.declared.kind_keys.Key.{Key}
use Rattle.ev_indexes.specs.declared.state.State.{State}
use Rattle.ev_indexes.specs.Due.{is_one_of}
use Rattle.ev_indexes.specs.Indexes.{status_in, key_in, serves, warms, numbers_where}
use Rattle.ev_indexes.specs.Ready.{is_ready_in, is_due_at}
use Rattle.ev_indexes.specs.Reads.{names_watched}
use Rattle.ev_indexes.specs.Watched.{watch_in, watchers_of}
use Rattle.ev_warming.specs.Promotion.{rows_promoted, status_drained}

-- the row of this number serves after, and it didn't serve before
abbrev pub began_to_serve : ℕ → List GenRow → List GenRow → Bool
began_to_serve number before after = not (is_active (status_in (row_in number before))) && is_active (status_in (row_in number after))

-- the row of this number served before, and it drains after
abbrev pub began_to_drain : ℕ → List GenRow → List GenRow → Bool
began_to_drain number before after = is_active (status_in (row_in number before)) && is_draining (status_in (row_in number after))

-- a row is found that drains or was dropped
abbrev pub is_over : Option GenRow → Bool
is_over None = false
is_over (Some row) = not (is_live row.status)

-- the row of this number drains or is dropped after, and it wasn't so before
abbrev pub has_retired : ℕ → List GenRow → List GenRow → Bool
has_retired number before after = is_over (row_in number after) && not (is_over (row_in number before))

-- no resource of the response has the name
abbrev pub is_unlisted : ResponseParts → List ℕ → Bool
is_unlisted response name = not (nat_le 1 (length (items_named name response.items)))

-- a row's status once the response has removed these names: those that a resource has stay
abbrev pub status_left_by : Kind → ResponseParts → List (List ℕ) → GenRow → RowStatus
status_left_by kind response names row =
    if kind_same row.kind kind && (is_among row.name names && is_unlisted response row.name) then removed_status row.status else row.status

-- the second list has the first one's numbers and those of the rows that retired in between, and a row that is over
-- stays over
pub record Tells (before after : List GenRow) (numbers more : List ℕ) : Type 0 where
  pub told : (number : ℕ) → is_one_of more number ≡ (is_one_of numbers number || has_retired number before after)
  pub stays : (number : ℕ) → is_over (row_in number before) ≡ true → is_over (row_in number after) ≡ true

-- what was reported to have retired grows by what retired in between
abbrev pub TellsRetired : State → State → List ℕ → List ℕ → Type 0
TellsRetired old new numbers more = Tells old.table.rows new.table.rows numbers more

-- these are the numbers of the rows that retired in between
abbrev pub HaveRetired : List ℕ → State → State → Type 0
HaveRetired numbers old new = (number : ℕ) → is_one_of numbers number ≡ has_retired number old.table.rows new.table.rows

-- these are the numbers of the rows that are due
abbrev pub AreDue : List ℕ → State → Type 0
AreDue numbers s = (number : ℕ) → is_one_of numbers number ≡ is_due_at s.watches s.results number s.table.rows

-- these are the numbers of the rows that came to serve in between
abbrev pub CameToServe : List ℕ → State → State → Type 0
CameToServe numbers old new =
    (number : ℕ) → is_one_of numbers number ≡ began_to_serve number old.table.rows new.table.rows

-- these are the numbers of the rows that began to drain in between
abbrev pub BeganToDrain : List ℕ → State → State → Type 0
BeganToDrain numbers old new =
    (number : ℕ) → is_one_of numbers number ≡ began_to_drain number old.table.rows new.table.rows

-- where none of these drains, the same names are watched as before
abbrev pub WatchesTheSame : List ℕ → State → State → Type 0
WatchesTheSame drained old new = drained ≡ [] → (kind : Kind) → names_watched kind new.table.rows ≡ names_watched kind old.table.rows

-- the number is that of the row that serves the name, where one does
abbrev pub ServesName : Option ℕ → Key → State → Type 0
ServesName number key s = option_to_list number ≡ numbers_where (serves key) s.table.rows

-- the number is that of the row that warms under the name, where one does
abbrev pub WarmsUnder : Option ℕ → Key → State → Type 0
WarmsUnder number key s = option_to_list number ≡ numbers_where (warms key) s.table.rows

-- the numbers that are kept with the name: those of the generations that depend on it
abbrev pub watchers_in : State → Key → List ℕ
watchers_in s key = watchers_of (watch_in s.watches key)

-- the rows once the name of a kind has come to its end
abbrev pub EndsRows : State → State → Kind → List ℕ → Type 0
EndsRows old new kind name = new.table.rows ≡ rows_ended kind name old.table.rows

-- the rows with a new one, which keeps these chains and takes the place of one that warms under its name
abbrev pub AddsRow : State → State → Kind → List ℕ → Content → List KeptChain → Type 0
AddsRow old new kind name content kept = new.table.rows ≡ rows_with_new kind old.table.made name content kept old.table.rows

-- these rows once the one of this number drains, or is dropped where it warmed
abbrev pub rows_retired : ℕ → List GenRow → List GenRow
rows_retired number rows = with_status number (removed_status (status_in (row_in number rows))) rows

-- these rows once the one drains that serves the name of the row of this number
abbrev pub rows_giving_way : ℕ → List GenRow → List GenRow
rows_giving_way number rows = with_statuses (status_drained (key_in (row_in number rows))) rows

-- these rows once all serve that warm and are ready by what the state knows
abbrev pub promoted_by : State → List GenRow → List GenRow
promoted_by s rows = rows_promoted (is_ready_in s.watches s.results) rows

-- the results stay
abbrev pub KeepsResults : State → State → Type 0
KeepsResults old new =
    new ≡ record old { table = new.table; names = new.names; watches = new.watches; addresses = new.addresses; due = new.due }

-- what is known of names, who holds an address and the results stay
abbrev pub KeepsKnown : State → State → Type 0
KeepsKnown old new = new ≡ record old { table = new.table; names = new.names; due = new.due }

-- the rows with their names and addresses, and which are due stay
abbrev pub KeepsTable : State → State → Type 0
KeepsTable old new = new ≡ record old { watches = new.watches; results = new.results }

-- the results stay, and none is due any more
abbrev pub LeavesNoneDue : State → State → Type 0
LeavesNoneDue old new =
    new ≡ record old { table = new.table; names = new.names; watches = new.watches; addresses = new.addresses; due = [] }
