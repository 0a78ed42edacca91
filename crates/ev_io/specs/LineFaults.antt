-- Which fault of lines is at which byte of an input. Bytes are counted from 0.
use Rattle.std.specs.Prelude.{◌≢◌, ℕ, ◌+◌, ◌<◌, ◌≤◌, List, length, take, slice_index}
use Rattle.ev_io.specs.declared.limits.TheConstants.{MAX_LINE_BYTES, MAX_LINES, MAX_INPUT_BYTES}
use Rattle.ev_io.specs.declared.faults.LineFault.{LineFault}
use Rattle.ev_io.specs.declared.faults.LineFault.TheVariants.{TooLong, TooMany, TooLarge, Failed, OutOfMemory}
use Rattle.ev_io.specs.Lines.{feeds_in}

-- a byte above the most bytes of an input
abbrev pub IsTooLarge : ℕ → Type 0
IsTooLarge place = MAX_INPUT_BYTES ≤ place

-- a byte of a line above the most lines
abbrev pub IsTooMany : List ℕ → ℕ → Type 0
IsTooMany bytes place = MAX_LINES ≤ feeds_in (take place bytes)

-- a byte above the most bytes of its line: neither it nor any of this many bytes before it is a line feed
abbrev pub IsTooLong : List ℕ → ℕ → Type 0
IsTooLong bytes place = (MAX_LINE_BYTES ≤ place) × ((k : ℕ) → place ≤ k + MAX_LINE_BYTES → k ≤ place → slice_index bytes k ≢ 10)

-- this fault is at the byte: of those that do, too large goes first, then too many
abbrev pub StandsAt : List ℕ → ℕ → LineFault → Type 0
StandsAt bytes place TooLarge = IsTooLarge place
StandsAt bytes place TooMany = (¬ (IsTooLarge place)) × IsTooMany bytes place
StandsAt bytes place TooLong = (¬ (IsTooLarge place)) × (¬ (IsTooMany bytes place)) × IsTooLong bytes place
StandsAt bytes place Failed = ⊥
StandsAt bytes place OutOfMemory = ⊥

-- there is no fault at the byte
abbrev pub HasNoLineFault : List ℕ → ℕ → Type 0
HasNoLineFault bytes place = (¬ (IsTooLarge place)) × (¬ (IsTooMany bytes place)) × (¬ (IsTooLong bytes place))

-- there is no fault at any of the first n bytes
abbrev pub IsSoundUpTo : List ℕ → ℕ → Type 0
IsSoundUpTo bytes n = (place : ℕ) → place < n → HasNoLineFault bytes place

-- the first fault of the bytes, and where it is
pub record IsFirstLineFault (bytes : List ℕ) (place : ℕ) (fault : LineFault) : Type 0 where
  pub within : place < length bytes
  pub stands : StandsAt bytes place fault
  pub first : IsSoundUpTo bytes place
