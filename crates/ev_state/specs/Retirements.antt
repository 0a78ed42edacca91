-- Which generations an event retired, and of which a picture may show something else than before it.
use Rattle.std.specs.Prelude.{◌≡◌, ℕ, false, List, Some}
use Rattle.ev_types.specs.Statuses.{is_live}
use Rattle.ev_types.specs.declared.rows.GenRow.{GenRow}
use Rattle.ev_model.specs.World.{World}
use Rattle.ev_indexes.specs.Tables.{row_in}
use Rattle.ev_indexes.specs.Due.{is_one_of}
use Rattle.ev_warming.specs.Changes.{has_retired}
use Rattle.ev_managers.specs.declared.moved.Moved.{Moved}
use Rattle.ev_state.specs.Changed.{HaveChanged}

-- these generations retired between the worlds, and no others
abbrev pub HaveRetired : List ℕ → World → World → Type 0
HaveRetired numbers before world = (number : ℕ) → is_one_of numbers number ≡ has_retired number before.rows world.rows

-- these retired between the worlds, and of these a picture may show something else
pub record HaveMoved (moved : Moved) (before world : World) : Type 0 where
  pub retired : HaveRetired moved.retired before world
  pub changed : HaveChanged moved.changed before world

-- these generations ceased to be live between the worlds, and no others; and one that was over before is as it was
pub record HaveCeased (numbers : List ℕ) (before world : World) : Type 0 where
  pub told : (number : ℕ) → is_one_of numbers number ≡ has_retired number before.rows world.rows
  pub stays : (number : ℕ) (row : GenRow) → row_in number before.rows ≡ Some row → is_live row.status ≡ false → row_in number world.rows ≡ Some row
