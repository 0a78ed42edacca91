-- The lines of a journal, and where they stop being one (kind 9). This project's own. Lines are given by their numbers,
-- counted from 1; `given` lines were given by the reader of lines, those of the script before the journal among them.
use Rattle.std.specs.Prelude.{◌≡◌, ◌≢◌, ℕ, ◌+◌, ◌≤◌, ◌⊎◌, ⊤, Bool, true, false, IsTrue, List, [], ◌∷◌, ◌++◌, length, map, take, drop, All, Vec, Option, Some, None, Result, Ok, Err}
use Rattle.std.specs.declared.alloc.Global.{Global}
use Rattle.serde_json.specs.Written.{compact_text}
use Rattle.ev_io.specs.declared.faults.LineFault.{LineFault}
use Rattle.ev_io.specs.declared.faults.LineFault.TheVariants as limit
use Rattle.ev_io.specs.declared.faults.ScriptFault.{ScriptFault}
use Rattle.ev_io.specs.declared.faults.ScriptFault.TheVariants.{Bad, Read, OutOfMemory}
use Rattle.ev_io.specs.Lines.{lines_of, feeds_in}
use Rattle.ev_io.specs.LineFaults.{IsSoundUpTo, IsFirstLineFault}
use Rattle.ev_io.specs.LinesState.{LinesState, HasTaken}
use Rattle.ev_io.specs.ReadLine.{IsUnfinished}
use Rattle.ev_types.specs.declared.journals.Format.{Format}
use Rattle.ev_types.specs.declared.journals.Row.{Row}
use Rattle.ev_script.specs.declared.fault_kinds.FaultKind.TheVariants.{TooLong, TooMany, TooLarge, NotJournal}
use Rattle.ev_script.specs.Faults.{fault_number}
use Rattle.ev_journal.specs.Rendering.{first_tree, end_tree}
use Rattle.ev_journal.specs.Rows.{IsTextOf, row_text}
use Rattle.ev_journal_read.specs.declared.journal.Body.{Body}
use Rattle.ev_journal_read.specs.Reading.{IsNoRow}

-- ---- lines in their places

-- the text of a journal's first line
abbrev pub first_text : Format → ℕ → List ℕ
first_text format workers = compact_text (first_tree format workers)

-- the text of the end line after this many rows
abbrev pub end_text : ℕ → List ℕ
end_text rows = compact_text (end_tree rows)

-- the texts after a journal's first line: those of the rows, and of the end line where there is one
abbrev pub texts_of : List Row → Bool → List (List ℕ)
texts_of rows false = map row_text rows
texts_of rows true = map row_text rows ++ end_text (length rows) ∷ []

-- each row is the one that is meant by its text
abbrev pub AreMeant : List Row → Type 0
AreMeant rows = All (λ (row : Row). IsTextOf (row_text row) row) rows

-- the first text and those after it are a journal's up to there: its first line, rows, and the end line or not yet
pub record IsJournalTo (workers : ℕ) (first : List ℕ) (texts : List (List ℕ)) (format : Format) (rows : List Row) (ended : Bool) : Type 0 where
  pub head : first ≡ first_text format workers
  pub meant : AreMeant rows
  pub lines : texts ≡ texts_of rows ended

-- after these rows, and after the end line or not, the text is in no place of a journal: nothing comes after the end
-- line, and before it a row or the end line with the number of the rows
abbrev pub IsMisplaced : List Row → Bool → List ℕ → Type 0
IsMisplaced rows true text = ⊤
IsMisplaced rows false text = IsNoRow text × (text ≢ end_text (length rows))

-- what is found of a first line: its format, or none where it is the first of no journal with this many workers
abbrev pub IsFirstAnswer : List ℕ → ℕ → Option Format → Type 0
IsFirstAnswer first workers (Some format) = first ≡ first_text format workers
IsFirstAnswer first workers None = (format : Format) → first ≢ first_text format workers

-- what is found of one line more: it is in its place and joins those that were read,
-- or it is misplaced and nothing changes
abbrev pub IsAdded : Body → Body → List ℕ → Bool → Type 0
IsAdded old new text true = (AreMeant old.rows.items → AreMeant new.rows.items) × (texts_of new.rows.items new.ended ≡ texts_of old.rows.items old.ended ++ text ∷ [])
IsAdded old new text false = IsMisplaced old.rows.items old.ended text

-- ---- what was read

-- these more bytes were taken and no fewer lines are given:
-- none, where the source had given its end and each line was given
pub record GoesOn (old new : LinesState) (bytes more : List ℕ) : Type 0 where
  pub taken : HasTaken new (bytes ++ more)
  pub onward : old.given ≤ new.given
  pub still : IsTrue old.ended → length (lines_of bytes) ≤ old.given → more ≡ []

-- the lines that a reader of lines gave between two of its states, of all bytes taken
abbrev pub given_between : LinesState → LinesState → List ℕ → List (List ℕ)
given_between old new bytes = drop old.given (take new.given (lines_of bytes))

-- the journal was read to its end, which is that of the input
pub record IsRead (workers : ℕ) (first : List ℕ) (old new : LinesState) (bytes : List ℕ) (format : Format) (rows : List Row) : Type 0 where
  pub journal : IsJournalTo workers first (given_between old new bytes) format rows true
  pub ended : IsTrue new.ended
  pub all : length (lines_of bytes) ≡ new.given
  pub sound : IsSoundUpTo bytes (length bytes)

-- ---- faults

-- the first line is the first of no journal with this many workers
pub record IsWrongFirst (workers : ℕ) (first : List ℕ) (old new : LinesState) (line kind : ℕ) : Type 0 where
  pub wrong : (format : Format) → first ≢ first_text format workers
  pub nothing : new ≡ old
  pub here : line ≡ old.given
  pub numbered : kind ≡ fault_number NotJournal

-- the last line given is in no place of the journal, which the lines before it are up to there
pub record IsWrongLine (workers : ℕ) (first : List ℕ) (old new : LinesState) (bytes : List ℕ) (line kind : ℕ) : Type 0 where
  pub format : Format
  pub rows : List Row
  pub ended : Bool
  pub before : List (List ℕ)
  pub text : List ℕ
  pub journal : IsJournalTo workers first before format rows ended
  pub lines : given_between old new bytes ≡ before ++ text ∷ []
  pub misplaced : IsMisplaced rows ended text
  pub here : line ≡ new.given
  pub numbered : kind ≡ fault_number NotJournal

-- the input ends without the journal's end line: the fault is reported one line above the last
pub record IsEndless (workers : ℕ) (first : List ℕ) (old new : LinesState) (bytes : List ℕ) (line kind : ℕ) : Type 0 where
  pub format : Format
  pub rows : List Row
  pub journal : IsJournalTo workers first (given_between old new bytes) format rows false
  pub ended : IsTrue new.ended
  pub all : length (lines_of bytes) ≡ new.given
  pub sound : IsSoundUpTo bytes (length bytes)
  pub here : line ≡ new.given + 1
  pub numbered : kind ≡ fault_number NotJournal

-- the number of a fault of the limits
abbrev pub LimitNumber : LineFault → ℕ → Type 0
LimitNumber limit.TooLong kind = kind ≡ fault_number TooLong
LimitNumber limit.TooMany kind = kind ≡ fault_number TooMany
LimitNumber limit.TooLarge kind = kind ≡ fault_number TooLarge
LimitNumber limit.Failed kind = ⊥
LimitNumber limit.OutOfMemory kind = ⊥

-- the first fault of the limits is in the line after those given, which are a journal up to there
pub record IsPastLimit (workers : ℕ) (first : List ℕ) (old new : LinesState) (bytes : List ℕ) (line kind : ℕ) : Type 0 where
  pub format : Format
  pub rows : List Row
  pub end : Bool
  pub journal : IsJournalTo workers first (given_between old new bytes) format rows end
  pub fault : LineFault
  pub place : ℕ
  pub stands : IsFirstLineFault bytes place fault
  pub behind : feeds_in (take place bytes) ≡ new.given
  pub here : line ≡ new.given + 1
  pub numbered : LimitNumber fault kind

-- a read failed before the next line's end, after a journal up to there
pub record IsCutOff (workers : ℕ) (first : List ℕ) (old new : LinesState) (bytes : List ℕ) : Type 0 where
  pub format : Format
  pub rows : List Row
  pub end : Bool
  pub journal : IsJournalTo workers first (given_between old new bytes) format rows end
  pub unfinished : IsUnfinished new.given new.ended bytes

-- what an answer says of the bytes taken
abbrev pub IsRowsAnswer : ℕ → List ℕ → LinesState → LinesState → List ℕ → Result (Format × Vec Row Global) ScriptFault → Type 0
IsRowsAnswer workers first old new bytes (Ok read) = IsRead workers first old new bytes read.0 read.1.items
IsRowsAnswer workers first old new bytes (Err (Bad line kind)) =
    IsWrongFirst workers first old new line kind ⊎ (IsWrongLine workers first old new bytes line kind
    ⊎ (IsEndless workers first old new bytes line kind ⊎ IsPastLimit workers first old new bytes line kind))
IsRowsAnswer workers first old new bytes (Err Read) = IsCutOff workers first old new bytes
IsRowsAnswer workers first old new bytes (Err OutOfMemory) = ⊤
