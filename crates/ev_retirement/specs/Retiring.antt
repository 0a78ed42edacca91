-- Generations that cease to be live are noted in the drain, one after another. This project's own.
use Rattle.std.specs.Prelude.{◌≡◌, ◌<◌, ⊤, ℕ, Bool, true, false, not, ◌&&◌, if◌then◌else◌, List, [], ◌∷◌, Option, None, Some}
use Rattle.std.specs.List.{AllByRecursion}
use Rattle.ev_types.specs.Statuses.{is_live}
use Rattle.ev_types.specs.declared.rows.GenRow.{GenRow}
use Rattle.ev_types.specs.declared.rows.RowStatus.{RowStatus}
use Rattle.ev_types.specs.declared.rows.RowStatus.TheVariants.{Warming, Active, Draining, Dropped}
use Rattle.ev_model.specs.Sorted.{put_by}
use Rattle.ev_model.specs.Picture.{has_number}
use Rattle.ev_indexes.specs.Tables.{row_in}
use Rattle.ev_drain.specs.Retired.{Retired, has_row, retired_in, row_before}
use Rattle.ev_model.specs.World.{World}
use Rattle.ev_retirement.specs.Holders.{HoldersParts, AreNumbered, HoldsFor}

-- a generation is found that drains or was dropped
abbrev pub has_ceased : Option GenRow → Bool
has_ceased None = false
has_ceased (Some row) = not (is_live row.status)

-- the row was dropped before it served
abbrev pub is_dropped : RowStatus → Bool
is_dropped Warming = false
is_dropped Active = false
is_dropped Draining = false
is_dropped Dropped = true

-- the rows are in the order of their numbers, and no two have one
abbrev pub AreInOrder : List Retired → Type 0
AreInOrder [] = ⊤
AreInOrder (row ∷ rows) = AllByRecursion (λ (other : Retired). row.number < other.number) rows × AreInOrder rows

-- the drain once this row is noted, where none of its number is there yet
abbrev pub noted : List Retired → GenRow → List Retired
noted drain row = if has_row drain row.number then drain else put_by row_before (retired_in [] row) drain

-- the same, where a row was found
abbrev pub noted_where : List Retired → Option GenRow → List Retired
noted_where drain None = drain
noted_where drain (Some row) = noted drain row

-- the drain once the rows of these numbers are noted, one after another
abbrev pub noted_all : List GenRow → List ℕ → List Retired → List Retired
noted_all rows [] drain = drain
noted_all rows (number ∷ numbers) drain = noted_all rows numbers (noted_where drain (row_in number rows))

-- exactly the generations of these numbers ceased to be live between the rows, and one that was over before is as it
-- was
pub record CeasedBetween (numbers : List ℕ) (before after : List GenRow) : Type 0 where
  pub told : (number : ℕ) → has_number number numbers ≡ (has_ceased (row_in number after) && not (has_ceased (row_in number before)))
  pub stays : (number : ℕ) (row : GenRow) → row_in number before ≡ Some row → is_live row.status ≡ false → row_in number after ≡ Some row

-- the worlds have the same pictures, the same open connections, and the same marks
pub record HoldTheSame (before after : World) : Type 0 where
  pub pictures : after.pictures ≡ before.pictures
  pub held : after.held ≡ before.held
  pub opened : after.opened ≡ before.opened
  pub expired : after.expired ≡ before.expired

-- Where exactly the generations of these numbers ceased to be live between two worlds, which hold the same, what
-- holds generations represents the second one once these are noted.
abbrev pub RetirementsStand : Type 0
RetirementsStand = (holders : HoldersParts) (numbers : List ℕ) (before after : World)
    → HoldsFor holders before → AreNumbered before.rows → AreNumbered after.rows → HoldTheSame before after → CeasedBetween numbers before.rows after.rows
    → HoldsFor (record holders { drain = noted_all after.rows numbers holders.drain }) after
