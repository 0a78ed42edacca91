-- What the readers of whole inputs answer, by the bytes that they took.
use Rattle.std.specs.Prelude.{◌≡◌, ℕ, ◌+◌, ◌<◌, ◌≤◌, Bool, true, false, IsTrue, ⊤, List, [], length, slice_index_or, Option, None, Some, Vec, Result, Ok, Err}
use Rattle.std.specs.declared.alloc.Global.{Global}
use Rattle.serde_json.specs.Data.{Data}
use Rattle.ev_types.specs.declared.events.Profile.{Profile}
use Rattle.ev_io.specs.declared.faults.LineFault.{LineFault}
use Rattle.ev_io.specs.declared.faults.LineFault.TheVariants as limit
use Rattle.ev_io.specs.declared.faults.ScriptFault.{ScriptFault}
use Rattle.ev_io.specs.declared.faults.ScriptFault.TheVariants.{Bad, Read, OutOfMemory}
use Rattle.ev_io.specs.Lines.{lines_of}
use Rattle.ev_io.specs.LinesState.{LinesState}
use Rattle.ev_script.specs.declared.fault_kinds.FaultKind.{FaultKind}
use Rattle.ev_script.specs.declared.content.First.TheVariants as first
use Rattle.ev_script.specs.declared.fault_kinds.FaultKind.TheVariants.{NotJournal}
use Rattle.ev_script.specs.declared.forms.FormedHead.{FormedHead}
use Rattle.ev_script.specs.declared.read_input.ReadLines.{ReadLines}
use Rattle.ev_script.specs.declared.read_input.UpToJournal.{UpToJournal}
use Rattle.ev_script.specs.Faults.{LineForms, Input, index_at, fault_number, BeginsJournal, Stands, IsFaultOf, HasNoFault}
use Rattle.ev_script.specs.Content.{first_content, IsHeadKept}
use Rattle.ev_script.specs.Members.{tree_of}
use Rattle.ev_script.specs.ReadLines.{AreRead, AreLinesKept}

-- the input, as far as it was taken
abbrev pub input_of : Bool → LinesState → List ℕ → Input
input_of audit state bytes = record { bytes = bytes; ended = state.ended; audit = audit }

-- how a fault of lines is reported, where this many lines were given
abbrev pub script_fault : ℕ → LineFault → ScriptFault
script_fault given limit.TooLong = Bad (given + 1) 1
script_fault given limit.TooMany = Bad (given + 1) 2
script_fault given limit.TooLarge = Bad (given + 1) 3
script_fault given limit.Failed = Read
script_fault given limit.OutOfMemory = OutOfMemory

-- a fault is the first of the bytes taken, before any journal;
-- a failed read is reported where they have none, and no journal begins, and go on
abbrev pub IsTold : LineForms → Input → ScriptFault → Type 0
IsTold forms input (Bad line kind) = IsFaultOf forms input line kind
IsTold forms input Read = HasNoFault forms input × (¬ (IsTrue input.ended)) × ((start : ℕ) → ¬ (BeginsJournal input start))
IsTold forms input OutOfMemory = ⊤

-- the input is no audit's, was read to its end, has no fault and this many lines
pub record IsWhole (forms : LineForms) (input : Input) (count : ℕ) : Type 0 where
  pub script : input.audit ≡ false
  pub ended : IsTrue input.ended
  pub sound : HasNoFault forms input
  pub lines : length (lines_of input.bytes) ≡ count

-- after this many lines the journal begins, by a line of this text, and there is no fault up to that line's end
pub record IsUpToJournal (forms : LineForms) (input : Input) (count : ℕ) (text : List ℕ) : Type 0 where
  pub place : ℕ
  pub begins : BeginsJournal input place
  pub first : (other : ℕ) → other < place → ¬ (BeginsJournal input other)
  pub sound : (other : ℕ) (kind : FaultKind) → other ≤ place → ¬ (Stands forms input other kind)
  pub behind : index_at input place ≡ count
  pub here : slice_index_or (lines_of input.bytes) count [] ≡ text

-- where no journal follows: the input is whole, and in an audit's input that is the first fault
abbrev pub HasNoJournal : Bool → LineForms → Input → ℕ → Type 0
HasNoJournal false forms input count = IsWhole forms input count
HasNoJournal true forms input count = IsFaultOf forms input (count + 1) (fault_number NotJournal)

-- where the script ends: at the end of the input, or before its journal
abbrev pub EndsBefore : LineForms → Input → ℕ → Option (Vec ℕ Global) → Type 0
EndsBefore forms input count None = HasNoJournal input.audit forms input count
EndsBefore forms input count (Some text) = IsUpToJournal forms input count text.items

-- how many lines are given besides those after the header: it, and the journal's first
abbrev pub through_journal : Option (Vec ℕ Global) → ℕ
through_journal None = 1
through_journal (Some text) = 2

-- what the header sets, and what is kept of it and of the lines after it
pub record IsReadOf {H A : Type 0} (forms : LineForms) (keeps_head : Data → H → Type 0) (keeps : Profile → ℕ → Data → A → Type 0) (input : Input) (read : ReadLines H A) : Type 0 where
  pub head : IsHeadKept keeps_head (tree_of (slice_index_or (lines_of input.bytes) 0 [])) read.head
  pub lines : AreRead forms input.audit (lines_of input.bytes) read.settings (length read.kept.items + 1)
  pub kept : AreLinesKept (keeps read.settings.profile) (lines_of input.bytes) read.kept.items

-- what an answer means: all lines of an input without fault, or the first fault of the bytes taken
abbrev pub IsAnswer : {H A : Type 0} → LineForms → (Data → H → Type 0) → (Profile → ℕ → Data → A → Type 0) → Input → Result (ReadLines H A) ScriptFault → Type 0
IsAnswer forms keeps_head keeps input (Ok read) = IsReadOf forms keeps_head keeps input read × IsWhole forms input (length read.kept.items + 1)
IsAnswer forms keeps_head keeps input (Err fault) = IsTold forms input fault

-- the same of the lines before a journal
abbrev pub IsAnswerUpTo : {H A : Type 0} → LineForms → (Data → H → Type 0) → (Profile → ℕ → Data → A → Type 0) → Input → Result (UpToJournal H A) ScriptFault → Type 0
IsAnswerUpTo forms keeps_head keeps input (Ok up_to) =
    IsReadOf forms keeps_head keeps input up_to.read × EndsBefore forms input (length up_to.read.kept.items + 1) up_to.journal
IsAnswerUpTo forms keeps_head keeps input (Err fault) = IsTold forms input fault

-- what an answer about the first line means: a header was given, of which this is kept,
-- or the first fault of the bytes taken is in the first line, whether a journal has to follow or not
abbrev pub IsHeadAnswer : {H : Type 0} → LineForms → (Data → H → Type 0) → LinesState → List ℕ → Result (FormedHead H) ScriptFault → Type 0
IsHeadAnswer forms keeps_head state bytes (Ok head) =
    (state.told ≡ None) × (state.given ≡ 1) × (first_content forms (slice_index_or (lines_of bytes) 0 []) ≡ first.Header head.settings)
    × IsHeadKept keeps_head (tree_of (slice_index_or (lines_of bytes) 0 [])) head.kept
IsHeadAnswer forms keeps_head state bytes (Err fault) = (audit : Bool) → IsTold forms (input_of audit state bytes) fault
