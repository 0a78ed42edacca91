-- The table of generations, seen as the list of its rows. This project's own: a generation is found by its number.
use Rattle.std.specs.Prelude.{◌≡◌, ℕ, Bool, not, ◌==◌, ◌<◌, nat_eq, if◌then◌else◌, List, Option, None, filter, find, map}
use Rattle.std.specs.List.{IsDistinct}
use Rattle.ev_types.specs.declared.contents.Content.{Content}
use Rattle.ev_types.specs.declared.contents.Kind.{Kind}
use Rattle.ev_types.specs.declared.origins.KeptChain.{KeptChain}
use Rattle.ev_types.specs.declared.rows.RowStatus.{RowStatus}
use Rattle.ev_types.specs.declared.rows.RowStatus.TheVariants.{Warming}
use Rattle.ev_types.specs.declared.rows.GenRow.{GenRow}
use Rattle.ev_model.specs.Rows.{with_statuses}

-- the rows in the order in which they were added, and how many numbers were allocated
pub record GenerationsParts : Type 0 where
  pub rows : List GenRow
  pub made : ℕ

-- a row that warms
abbrev pub warming_row : Kind → ℕ → List ℕ → Content → List KeptChain → GenRow
warming_row kind number name content kept =
    record { kind = kind; number = number; name = name; content = content; status = Warming; kept = kept }

-- the row has this number
abbrev pub is_number : ℕ → GenRow → Bool
is_number number row = number == row.number

-- the row of this number
abbrev pub row_in : ℕ → List GenRow → Option GenRow
row_in number rows = find (is_number number) rows

-- the numbers of these rows
abbrev pub numbers_of : List GenRow → List ℕ
numbers_of rows = map (λ (row : GenRow). row.number) rows

-- the status of a row once that of this number has another one
abbrev pub status_with : ℕ → RowStatus → GenRow → RowStatus
status_with number status row = if is_number number row then status else row.status

-- these rows, that of this number with another status
abbrev pub with_status : ℕ → RowStatus → List GenRow → List GenRow
with_status number status rows = with_statuses (status_with number status) rows

-- these rows without that of this number
abbrev pub without_row : ℕ → List GenRow → List GenRow
without_row number rows = filter (λ (row : GenRow). not (is_number number row)) rows

-- what every table keeps
pub record IsTable (table : GenerationsParts) : Type 0 where
  -- no two rows have the same number
  pub apart : IsDistinct nat_eq (numbers_of table.rows)
  -- no row has a number that wasn't allocated
  pub drawn : (number : ℕ) → table.made < number → row_in number table.rows ≡ None

-- how a table is stored: the entries are the rows, each under its number
pub record IsStored (entries : List (ℕ × GenRow)) (made : ℕ) : Type 0 where
  pub numbered : map (λ (e : ℕ × GenRow). e.0) entries ≡ numbers_of (map (λ (e : ℕ × GenRow). e.1) entries)
  pub table : IsTable (record { rows = map (λ (e : ℕ × GenRow). e.1) entries; made = made })
