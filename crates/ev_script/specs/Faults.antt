-- Where an input stops being a script. This project's own. A place counts bytes from 0; the end of the
-- input is the place after its last byte. Of all faults, each said by a fact of its own, the first
-- counts: the one at the first place, and at one place the first in the order of kinds.
use Rattle.std.specs.Prelude.{◌≡◌, ℕ, ◌+◌, ◌<◌, ◌≤◌, ◌⊎◌, Bool, IsTrue, List, [], length, take, slice_index, slice_index_or, is_some, codes, Option, None, Some, option_map, option_and_then, unwrap_or}
use Rattle.serde_json.specs.Data.{Data}
use Rattle.serde_json.specs.Find.{get}
use Rattle.ev_io.specs.Lines.{lines_of, feeds_in}
use Rattle.ev_io.specs.LineFaults.{IsTooLarge, IsTooMany, IsTooLong}
use Rattle.ev_types.specs.declared.events.Actor.{Actor}
use Rattle.ev_types.specs.declared.events.Actor.TheVariants.{Stream, Health, Timer, Main, Worker}
use Rattle.ev_types.specs.declared.events.Line.{Line}
use Rattle.ev_types.specs.declared.events.Profile.{Profile}
use Rattle.ev_types.specs.declared.events.Profile.TheVariants.{Own}
use Rattle.ev_script.specs.declared.fault_kinds.FaultKind.{FaultKind}
use Rattle.ev_script.specs.declared.fault_kinds.FaultKind.TheVariants.{TooLong, TooMany, TooLarge, NotJson, NotHeader, NotLine, NoSuchWorker, NoByte, NotJournal}
use Rattle.ev_script.specs.declared.forms.Settings.{Settings}
use Rattle.ev_script.specs.Members.{tree_of}
use Rattle.ev_script.specs.Header.{header_of, settings_of}
use Rattle.ev_script.specs.Lines.{line_of}

-- ---- kinds

-- the number of a kind, which the program prints
abbrev pub fault_number : FaultKind → ℕ
fault_number TooLong = 1
fault_number TooMany = 2
fault_number TooLarge = 3
fault_number NotJson = 4
fault_number NotHeader = 5
fault_number NotLine = 6
fault_number NoSuchWorker = 7
fault_number NoByte = 8
fault_number NotJournal = 9

-- the place of a kind in the order in which the kinds are looked at, at one place
abbrev pub fault_order : FaultKind → ℕ
fault_order TooLarge = 0
fault_order TooMany = 1
fault_order TooLong = 2
fault_order NoByte = 3
fault_order NotJson = 4
fault_order NotHeader = 5
fault_order NotLine = 6
fault_order NoSuchWorker = 7
fault_order NotJournal = 8

-- ---- forms of lines

-- What a tree is as a line of an input. `heads`: as the first line, what it sets for the others, or none where it is no
-- header. `lines`: as another one, by the profile that the first sets and its line's number,
-- the worker that it names, where it names one, or none where it is no line.
pub record LineForms : Type 0 where
  pub heads : Data → Option Settings
  pub lines : Profile → ℕ → Data → Option (Option ℕ)

-- ---- inputs

-- the bytes taken, whether the source gave its end, and whether a journal has to follow the script
pub record Input : Type 0 where
  pub bytes : List ℕ
  pub ended : Bool
  pub audit : Bool

-- the index, from 0, of the line that the byte at a place belongs to, or that ends there
abbrev pub index_at : Input → ℕ → ℕ
index_at input place = feeds_in (take place input.bytes)

-- a line ends at the place: by its line feed, or at the end of the input, being the last one and not closed
abbrev pub EndsLine : Input → ℕ → Type 0
EndsLine input place =
    ((place < length input.bytes) × (slice_index input.bytes place ≡ 10))
    ⊎ (IsTrue input.ended × (place ≡ length input.bytes) × (feeds_in input.bytes < length (lines_of input.bytes)))

-- the tree of the line that ends there, where that is JSON
abbrev pub tree_at : Input → ℕ → Option Data
tree_at input place = tree_of (slice_index_or (lines_of input.bytes) (index_at input place) [])

-- what the first line sets, where it is a header
abbrev pub settings_in : LineForms → List (List ℕ) → Option Settings
settings_in forms texts = option_and_then forms.heads (tree_of (slice_index_or texts 0 []))

-- the profile of what is set: the project's own where nothing is
abbrev pub profile_by : Option Settings → Profile
profile_by settings = unwrap_or (option_map (λ (s : Settings). s.profile) settings) Own

-- the profile that the first line sets
abbrev pub profile_in : LineForms → List (List ℕ) → Profile
profile_in forms texts = profile_by (settings_in forms texts)

-- what the line that ends there is by the forms: the worker that it names, where it names one,
-- or none where it is no line
abbrev pub named_at : LineForms → Input → ℕ → Option (Option ℕ)
named_at forms input place = option_and_then (forms.lines (profile_in forms (lines_of input.bytes)) (index_at input place + 1)) (tree_at input place)

-- ---- the journal after a script

-- an object with a member `format`
abbrev pub has_format : Data → Bool
has_format tree = is_some (get (codes "format") tree)

-- the line that ends at the place begins the journal: in an audit's input it isn't the first line,
-- and has a member `format`
pub record BeginsJournal (input : Input) (place : ℕ) : Type 0 where
  pub audit : IsTrue input.audit
  pub ends : EndsLine input place
  pub later : 0 < index_at input place
  pub format : (tree : Data) × (tree_at input place ≡ Some tree) × IsTrue (has_format tree)

-- a line of the script ends at the place: no journal begins there or before
pub record EndsScriptLine (input : Input) (place : ℕ) : Type 0 where
  pub ends : EndsLine input place
  pub before : (start : ℕ) → start ≤ place → ¬ (BeginsJournal input start)

-- ---- which lines there are

-- the worker that an actor is, where it is one
abbrev pub worker_of : Actor → Option ℕ
worker_of Stream = None
worker_of Health = None
worker_of Timer = None
worker_of Main = None
worker_of (Worker worker) = Some worker

-- the forms of a script's lines; a command whose input has other lines has other forms
abbrev pub plain_lines : LineForms
plain_lines = record {
  heads = λ tree. option_map settings_of (header_of tree);
  lines = λ profile at tree. option_map (λ (line : Line). worker_of line.actor) (line_of profile at tree);
}

-- the worker isn't below the header's count
pub record IsUnknownWorker (forms : LineForms) (input : Input) (named : Option (Option ℕ)) : Type 0 where
  pub worker : ℕ
  pub settings : Settings
  pub names : named ≡ Some (Some worker)
  pub heads : settings_in forms (lines_of input.bytes) ≡ Some settings
  pub above : settings.workers ≤ worker

-- ---- faults

-- a fault of this kind is at the place
abbrev pub Stands : LineForms → Input → ℕ → FaultKind → Type 0
Stands forms input place TooLong = (place < length input.bytes) × IsTooLong input.bytes place
Stands forms input place TooMany = (place < length input.bytes) × IsTooMany input.bytes place
Stands forms input place TooLarge = (place < length input.bytes) × IsTooLarge place
Stands forms input place NotJson = EndsScriptLine input place × (tree_at input place ≡ None)
Stands forms input place NotHeader = EndsScriptLine input place × (index_at input place ≡ 0) × (option_and_then forms.heads (tree_at input place) ≡ None)
Stands forms input place NotLine = EndsScriptLine input place × (0 < index_at input place) × (named_at forms input place ≡ None)
Stands forms input place NoSuchWorker = EndsScriptLine input place × (0 < index_at input place) × IsUnknownWorker forms input (named_at forms input place)
Stands forms input place NoByte = IsTrue input.ended × (input.bytes ≡ []) × (place ≡ 0)
Stands forms input place NotJournal =
    IsTrue input.audit × IsTrue input.ended × (place ≡ length input.bytes) × ((start : ℕ) → ¬ (BeginsJournal input start))

-- the first fault: no other is at an earlier place, or at its place with a kind that is looked at before
pub record IsFirstFault (forms : LineForms) (input : Input) (place : ℕ) (kind : FaultKind) : Type 0 where
  pub stands : Stands forms input place kind
  pub first : (other : ℕ) (kind_there : FaultKind) → Stands forms input other kind_there → (place < other) ⊎ ((place ≡ other) × (fault_order kind ≤ fault_order kind_there))

-- the line that a fault is reported with, counted from 1:
-- its own, and for a journal that is missing the one above the last
abbrev pub fault_line : Input → ℕ → FaultKind → ℕ
fault_line input place TooLong = index_at input place + 1
fault_line input place TooMany = index_at input place + 1
fault_line input place TooLarge = index_at input place + 1
fault_line input place NotJson = index_at input place + 1
fault_line input place NotHeader = index_at input place + 1
fault_line input place NotLine = index_at input place + 1
fault_line input place NoSuchWorker = index_at input place + 1
fault_line input place NoByte = 1
fault_line input place NotJournal = length (lines_of input.bytes) + 1

-- the input's first fault has this line and this number, and no journal begins before it
pub record IsFaultOf (forms : LineForms) (input : Input) (line number : ℕ) : Type 0 where
  pub place : ℕ
  pub kind : FaultKind
  pub first : IsFirstFault forms input place kind
  pub before : (start : ℕ) → start < place → ¬ (BeginsJournal input start)
  pub told : line ≡ fault_line input place kind
  pub numbered : number ≡ fault_number kind

-- there is no fault anywhere
abbrev pub HasNoFault : LineForms → Input → Type 0
HasNoFault forms input = (place : ℕ) (kind : FaultKind) → ¬ (Stands forms input place kind)
