-- Where an audit's input, a script with a journal after it, stops being one. This project's own.
-- Its faults are those of a script's lines before the journal and of the limits everywhere, and one kind more (kind 9):
-- that a line of the journal isn't one in its place, or that the journal or its end line is missing.
-- A place counts bytes from 0, as of a script's faults.
use Rattle.std.specs.Prelude.{◌≡◌, ◌≢◌, ℕ, zero, suc, ◌+◌, ◌-◌, ◌<◌, ◌≤◌, ◌⊎◌, IsTrue, List, [], length, slice_index_or, Some}
use Rattle.ev_io.specs.Lines.{lines_of}
use Rattle.ev_types.specs.declared.journals.Format.{Format}
use Rattle.ev_script.specs.declared.fault_kinds.FaultKind.{FaultKind}
use Rattle.ev_script.specs.declared.fault_kinds.FaultKind.TheVariants.{TooLong, TooMany, TooLarge, NotJson, NotHeader, NotLine, NoSuchWorker, NoByte, NotJournal}
use Rattle.ev_script.specs.declared.forms.Settings.{Settings}
use Rattle.ev_script.specs.Faults.{Input, index_at, EndsLine, BeginsJournal, Stands, fault_order, fault_line, fault_number, plain_lines, settings_in}
use Rattle.ev_journal_read.specs.Journals.{first_text, end_text}
use Rattle.ev_journal_read.specs.Reading.{IsNoRow}

-- ---- the lines of a journal

-- the journal begins at the place: its first line, which is the first after the header
-- with a member `format`, ends there
pub record StartsJournal (input : Input) (start : ℕ) : Type 0 where
  pub begins : BeginsJournal input start
  pub first : (other : ℕ) → other < start → ¬ (BeginsJournal input other)

-- a text isn't that of the line of a journal with this many lines before it:
-- of its first line, which names its format and the script's count of workers,
-- or after that and this many rows neither of a row nor of the end line, which names their number
abbrev pub IsNoText : ℕ → ℕ → List ℕ → Type 0
IsNoText workers zero text = (format : Format) → text ≢ first_text format workers
IsNoText workers (suc rows) text = IsNoRow text × (text ≢ end_text rows)

-- where the journal's first line has this index among the texts, one before a line is its end line
pub record HasEndBefore (texts : List (List ℕ)) (first index : ℕ) : Type 0 where
  pub rows : ℕ
  pub before : first + 1 + rows < index
  pub is : slice_index_or texts (first + 1 + rows) [] ≡ end_text rows

-- ---- faults

-- a line of the journal ends at the place that isn't one in its place:
-- it hasn't the text of one there, or comes after the end line
pub record IsMisplacedAt (input : Input) (place : ℕ) : Type 0 where
  pub start : ℕ
  pub starts : StartsJournal input start
  pub behind : start ≤ place
  pub ends : EndsLine input place
  pub settings : Settings
  pub heads : settings_in plain_lines (lines_of input.bytes) ≡ Some settings
  pub wrong : IsNoText settings.workers (index_at input place - index_at input start) (slice_index_or (lines_of input.bytes) (index_at input place) [])
      ⊎ HasEndBefore (lines_of input.bytes) (index_at input start) (index_at input place)

-- the input ends at the place, and no journal in it has its end line
pub record IsIncompleteAt (input : Input) (place : ℕ) : Type 0 where
  pub audit : IsTrue input.audit
  pub ended : IsTrue input.ended
  pub here : place ≡ length input.bytes
  pub missing : (start : ℕ) → StartsJournal input start → ¬ (HasEndBefore (lines_of input.bytes) (index_at input start) (length (lines_of input.bytes)))

-- a fault of this kind is at the place
abbrev pub StandsWithJournal : Input → ℕ → FaultKind → Type 0
StandsWithJournal input place TooLong = Stands plain_lines input place TooLong
StandsWithJournal input place TooMany = Stands plain_lines input place TooMany
StandsWithJournal input place TooLarge = Stands plain_lines input place TooLarge
StandsWithJournal input place NotJson = Stands plain_lines input place NotJson
StandsWithJournal input place NotHeader = Stands plain_lines input place NotHeader
StandsWithJournal input place NotLine = Stands plain_lines input place NotLine
StandsWithJournal input place NoSuchWorker = Stands plain_lines input place NoSuchWorker
StandsWithJournal input place NoByte = Stands plain_lines input place NoByte
StandsWithJournal input place NotJournal = IsMisplacedAt input place ⊎ IsIncompleteAt input place

-- the line with which it is reported: its own, and at the end of the input,
-- where no line that ends there is out of its place, the one above the last
abbrev pub IsToldWithJournal : Input → ℕ → FaultKind → ℕ → Type 0
IsToldWithJournal input place TooLong line = line ≡ fault_line input place TooLong
IsToldWithJournal input place TooMany line = line ≡ fault_line input place TooMany
IsToldWithJournal input place TooLarge line = line ≡ fault_line input place TooLarge
IsToldWithJournal input place NotJson line = line ≡ fault_line input place NotJson
IsToldWithJournal input place NotHeader line = line ≡ fault_line input place NotHeader
IsToldWithJournal input place NotLine line = line ≡ fault_line input place NotLine
IsToldWithJournal input place NoSuchWorker line = line ≡ fault_line input place NoSuchWorker
IsToldWithJournal input place NoByte line = line ≡ fault_line input place NoByte
IsToldWithJournal input place NotJournal line =
    (IsMisplacedAt input place × (line ≡ index_at input place + 1)) ⊎ ((¬ (IsMisplacedAt input place)) × (line ≡ length (lines_of input.bytes) + 1))

-- the input's first fault has this line and this number:
-- no other is at an earlier place, or at its place with a kind that is looked at before
pub record IsFaultWithJournal (input : Input) (line number : ℕ) : Type 0 where
  pub place : ℕ
  pub kind : FaultKind
  pub stands : StandsWithJournal input place kind
  pub first : (other : ℕ) (kind_there : FaultKind) → StandsWithJournal input other kind_there → (place < other) ⊎ ((place ≡ other) × (fault_order kind ≤ fault_order kind_there))
  pub told : IsToldWithJournal input place kind line
  pub numbered : number ≡ fault_number kind

-- there is no fault anywhere
abbrev pub HasNoFaultWithJournal : Input → Type 0
HasNoFaultWithJournal input = (place : ℕ) (kind : FaultKind) → ¬ (StandsWithJournal input place kind)
