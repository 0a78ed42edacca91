-- What a text is as a row. This project's own.
use Rattle.std.specs.Prelude.{◌≡◌, ◌≢◌, ℕ, List}
use Rattle.ev_types.specs.declared.events.Entry.{Entry}
use Rattle.ev_types.specs.declared.journals.Row.{Row}
use Rattle.ev_journal.specs.Rendering.{entry_row}
use Rattle.ev_journal.specs.Rows.{IsRow, IsTextOf, row_text, chosen_row}

-- the text is no row's
abbrev pub IsNoRow : List ℕ → Type 0
IsNoRow text = (row : Row) → IsRow row → row_text row ≢ text

-- a text is that of one row at most that is meant
abbrev pub HasOneRow : Type 0
HasOneRow = (text : List ℕ) (row other : Row) → IsTextOf text row → IsTextOf text other → row ≡ other

-- rows with one text are meant as one row
abbrev pub WritesOneToOne : Type 0
WritesOneToOne = (row other : Row) → IsRow row → IsRow other → row_text row ≡ row_text other → chosen_row row ≡ chosen_row other

-- the text of an entry is that of its row, or of the one that is meant by it
abbrev pub ReadsAsWritten : Type 0
ReadsAsWritten = (entry : Entry) → IsRow (entry_row entry) → IsTextOf (row_text (entry_row entry)) (chosen_row (entry_row entry))
