-- What comes next in the bytes that were taken and aren't given yet, `pending`. Of all bytes
-- `taken` were taken, and `given` lines were given.
use Rattle.std.specs.Prelude.{◌≡◌, ℕ, ◌+◌, ◌-◌, ◌<◌, ◌≤◌, ◌⊎◌, Bool, IsTrue, List, [], length, slice_index, Option, None, Some}
use Rattle.ev_io.specs.declared.limits.TheConstants.{MAX_LINE_BYTES, MAX_LINES, MAX_INPUT_BYTES}
use Rattle.ev_io.specs.declared.faults.LineFault.TheVariants.{TooLong, TooMany, TooLarge}
use Rattle.ev_io.specs.declared.found.Found.{Found}
use Rattle.ev_io.specs.declared.found.Found.TheVariants as found
use Rattle.ev_io.specs.Lines.{HasNoFeed}

-- neither a line's end nor a fault: each pending byte belongs to the next line, and is within the limits
pub record IsOpen (taken given : ℕ) (pending : List ℕ) : Type 0 where
  pub none : HasNoFeed pending (length pending)
  pub long : length pending ≤ MAX_LINE_BYTES
  pub many : 0 < length pending → given < MAX_LINES
  pub large : taken ≤ MAX_INPUT_BYTES

-- after n bytes a line ends, by its line feed or since no byte is left
abbrev pub Ends : ℕ → List ℕ → Bool → ℕ → Type 0
Ends taken pending ended n = ((n < length pending) × (slice_index pending n ≡ 10) × (taken + n < MAX_INPUT_BYTES + length pending)) ⊎ (IsTrue ended × (n ≡ length pending) × (0 < n) × (taken ≤ MAX_INPUT_BYTES))

-- the next line has n bytes and ends after them, within the limits
pub record IsLine (taken given : ℕ) (pending : List ℕ) (ended : Bool) (n : ℕ) : Type 0 where
  pub none : HasNoFeed pending n
  pub long : n ≤ MAX_LINE_BYTES
  pub many : given < MAX_LINES
  pub ends : Ends taken pending ended n

-- the byte above the most bytes of an input is here, and no other fault before it
pub record IsLarge (taken given : ℕ) (pending : List ℕ) : Type 0 where
  pub here : MAX_INPUT_BYTES < taken
  pub within : taken ≤ MAX_INPUT_BYTES + length pending
  pub none : HasNoFeed pending (MAX_INPUT_BYTES + length pending - taken)
  pub long : MAX_INPUT_BYTES + length pending ≤ taken + MAX_LINE_BYTES
  pub many : (given < MAX_LINES) ⊎ (taken ≡ MAX_INPUT_BYTES + length pending)

-- the first byte of a line above the most lines is here
pub record IsMany (taken given : ℕ) (pending : List ℕ) : Type 0 where
  pub here : 0 < length pending
  pub many : MAX_LINES ≤ given
  pub small : taken < MAX_INPUT_BYTES + length pending

-- the byte above the most bytes of a line is here, and no other fault before it
pub record IsLong (taken given : ℕ) (pending : List ℕ) : Type 0 where
  pub here : MAX_LINE_BYTES < length pending
  pub none : HasNoFeed pending (MAX_LINE_BYTES + 1)
  pub many : given < MAX_LINES
  pub small : taken + MAX_LINE_BYTES < MAX_INPUT_BYTES + length pending

-- what was found is there; where nothing was, more bytes are wanted
abbrev pub Finds : ℕ → ℕ → List ℕ → Bool → Option Found → Type 0
Finds taken given pending ended (Some (found.Line n)) = IsLine taken given pending ended n
Finds taken given pending ended (Some (found.Fault TooLong)) = IsLong taken given pending
Finds taken given pending ended (Some (found.Fault TooMany)) = IsMany taken given pending
Finds taken given pending ended (Some (found.Fault TooLarge)) = IsLarge taken given pending
Finds taken given pending ended (Some (found.Fault _)) = ⊥
Finds taken given pending ended (Some found.End) = IsTrue ended × (pending ≡ [])
Finds taken given pending ended None = (¬ (IsTrue ended)) × IsOpen taken given pending
