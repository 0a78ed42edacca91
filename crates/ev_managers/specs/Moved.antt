-- Which generations retired, and which came to serve.
use Rattle.std.specs.Prelude.{◌≡◌, ℕ, Bool, ◌||◌, List}
use Rattle.ev_types.specs.declared.rows.GenRow.{GenRow}
use Rattle.ev_indexes.specs.Due.{is_one_of}
use Rattle.ev_indexes.specs.declared.state.State.{State}
use Rattle.ev_warming.specs.Changes.{HaveRetired, began_to_serve, began_to_drain}
use Rattle.ev_managers.specs.declared.managers.Managers.{Managers}
use Rattle.ev_managers.specs.declared.moved.Moved.{Moved}

-- these began to drain or were dropped between the managers before and after, and no others
abbrev pub AreRetired : List ℕ → Managers → Managers → Type 0
AreRetired numbers before after = HaveRetired numbers before.core.state after.core.state

-- the row of this number came to serve, or served and drains
abbrev pub is_moved : ℕ → List GenRow → List GenRow → Bool
is_moved number before after = began_to_serve number before after || began_to_drain number before after

-- the second list has the first one's numbers and those that pass, and no others
abbrev pub Grows : List ℕ → List ℕ → (ℕ → Bool) → Type 0
Grows numbers more test = (number : ℕ) → is_one_of more number ≡ (is_one_of numbers number || test number)

-- the rows that began to drain are reported to have retired, and these and those that came to serve, to have changed
pub record TellsPromoted (before after : State) (moved more : Moved) : Type 0 where
  pub retired : Grows moved.retired more.retired (λ number. began_to_drain number before.table.rows after.table.rows)
  pub changed : Grows moved.changed more.changed (λ number. is_moved number before.table.rows after.table.rows)
