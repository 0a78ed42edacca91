-- The rows of a world by their numbers.
use Rattle.std.specs.Prelude.{◌≡◌, ℕ, zero, suc, ◌==◌, List, [], ◌++◌, Option, find, option_to_list}
use Rattle.ev_types.specs.declared.rows.GenRow.{GenRow}
use Rattle.ev_types.specs.declared.events.Entry.{Entry}
use Rattle.ev_types.specs.declared.journals.Format.{Format}
use Rattle.ev_model.specs.World.{World, opening}
use Rattle.ev_model.specs.Runs.{world_after}

-- the row of a number
abbrev pub row_numbered : ℕ → List GenRow → Option GenRow
row_numbered number rows = find (λ (row : GenRow). number == row.number) rows

-- the rows of the first n numbers, in their order
abbrev pub rows_numbered : ℕ → List GenRow → List GenRow
rows_numbered zero rows = []
rows_numbered (suc n) rows = rows_numbered n rows ++ option_to_list (row_numbered (suc n) rows)

-- after any entries the rows are those of the numbers that were allocated, in their order
abbrev pub StandByNumber : Type 0
StandByNumber = (format : Format) (workers : ℕ) (node : List ℕ) (entries : List Entry)
    → let world : World = world_after format (opening workers node) entries in rows_numbered world.made world.rows ≡ world.rows
