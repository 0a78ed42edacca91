-- Generations that no longer serve, as the drain keeps them: in the order of their numbers.
use Rattle.std.specs.Prelude.{◌≡◌, ℕ, Bool, false, not, ◌&&◌, ◌||◌, ◌==◌, if◌then◌else◌, List, filter, find, map, Option}
use Rattle.std.specs.List.{list_any}
use Rattle.std.specs.Option.{option_map, unwrap_or}
use Rattle.std.specs.Ordering.{nat_cmp, is_le}
use Rattle.std.specs.Str.{bytes_eq}
use Rattle.ev_types.specs.Kinds.{kind_same}
use Rattle.ev_types.specs.Statuses.{is_live}
use Rattle.ev_types.specs.declared.contents.Kind.{Kind}
use Rattle.ev_types.specs.declared.contents.Kind.TheVariants.{Lds}
use Rattle.ev_types.specs.declared.journals.Format.{Format}
use Rattle.ev_types.specs.declared.rows.RowStatus.{RowStatus}
use Rattle.ev_types.specs.declared.rows.RowStatus.TheVariants.{Draining, Dropped}
use Rattle.ev_types.specs.declared.rows.GenRow.{GenRow}
use Rattle.ev_model.specs.World.{OpenMember}
use Rattle.ev_model.specs.Sorted.{put_by, sorted_by}
use Rattle.ev_model.specs.Picture.{has_number}
use Rattle.ev_model.specs.Signals.{is_draining}
use Rattle.ev_model.specs.Dead.{is_dead_at, is_open_on, waits_for_timer}

-- a generation that drains or was dropped, and whether its drain timeout came
pub record Retired : Type 0 where
  pub kind : Kind
  pub number : ℕ
  pub name : List ℕ
  pub status : RowStatus
  pub expired : Bool

-- the status of a row that was retired
abbrev pub retired_status : Bool → RowStatus
retired_status dropped = if dropped then Dropped else Draining

-- a row that was just retired
abbrev pub newly_retired : Kind → ℕ → List ℕ → Bool → Retired
newly_retired kind number name dropped =
    record { kind = kind; number = number; name = name; status = retired_status dropped; expired = false }

-- the first is not above the second by number
abbrev pub row_before : Retired → Retired → Bool
row_before one other = is_le (nat_cmp one.number other.number)

-- the rows with one more, in the order of their numbers
abbrev pub with_row : Retired → List Retired → List Retired
with_row row rows = put_by row_before row rows

-- the row has this number
abbrev pub is_numbered : ℕ → Retired → Bool
is_numbered number row = row.number == number

-- one of these rows has this number
abbrev pub has_row : List Retired → ℕ → Bool
has_row rows number = list_any (is_numbered number) rows

-- the kind of the row of this number, where there is one
abbrev pub kind_of_row : List Retired → ℕ → Option Kind
kind_of_row rows number = option_map (λ (row : Retired). row.kind) (find (is_numbered number) rows)

-- the drain timeout of the row of this number came
abbrev pub is_expired : List Retired → ℕ → Bool
is_expired rows number = unwrap_or (option_map (λ (row : Retired). row.expired) (find (is_numbered number) rows)) false

-- a draining listener of this name
abbrev pub is_draining_listener : List ℕ → Retired → Bool
is_draining_listener name row = (kind_same row.kind Lds && bytes_eq row.name name) && is_draining row.status

-- and its drain timeout hasn't come
abbrev pub is_waiting : List ℕ → Retired → Bool
is_waiting name row = is_draining_listener name row && not row.expired

-- the numbers of those
abbrev pub numbers_waiting : List ℕ → List Retired → List ℕ
numbers_waiting name rows = map (λ (row : Retired). row.number) (filter (is_waiting name) rows)

-- the row once the drain timeout of this name came
abbrev pub marked : List ℕ → Retired → Retired
marked name row = record row { expired = row.expired || is_draining_listener name row }

-- nothing holds the row any more, by a test of what is shown and the open connections
abbrev pub is_dead_row : Format → (ℕ → Bool) → List OpenMember → Retired → Bool
is_dead_row format shown opened row =
    is_dead_at row.status
    ((shown row.number || list_any (is_open_on row.number) opened) || (waits_for_timer format row.kind && not row.expired))

-- the row of this number is among these, and nothing holds it any more
abbrev pub is_dead_in : Format → (ℕ → Bool) → List OpenMember → ℕ → List Retired → Bool
is_dead_in format shown opened number rows = list_any (λ row. is_numbered number row && is_dead_row format shown opened row) rows

-- the numbers of the dead ones
abbrev pub dead_of : Format → (ℕ → Bool) → List OpenMember → List Retired → List ℕ
dead_of format shown opened rows = map (λ (row : Retired). row.number) (filter (is_dead_row format shown opened) rows)

-- a row of the world that no longer serves
abbrev pub is_retired : GenRow → Bool
is_retired row = not (is_live row.status)

-- a row of the world as a retired one, by the numbers whose drain timeout came
abbrev pub retired_in : List ℕ → GenRow → Retired
retired_in expired row =
    record { kind = row.kind; number = row.number; name = row.name; status = row.status; expired = has_number row.number expired }

-- the retired rows of the world, in the order of their numbers
abbrev pub retired_of : List ℕ → List GenRow → List Retired
retired_of expired rows = sorted_by row_before (map (retired_in expired) (filter is_retired rows))

-- a drain has exactly the retired ones of these rows, with these marks
abbrev pub HasRetired : List Retired → List GenRow → List ℕ → Type 0
HasRetired drain rows expired = drain ≡ retired_of expired rows
