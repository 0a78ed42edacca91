-- What contracts see of a reader of lines.
use Rattle.std.specs.Prelude.{◌≡◌, ℕ, ◌+◌, ◌<◌, ◌≤◌, ◌⊎◌, Bool, false, IsTrue, List, [], ◌++◌, length, take, Option, None}
use Rattle.ev_io.specs.declared.limits.TheConstants.{MAX_LINE_BYTES, MAX_INPUT_BYTES, MAX_PIECE_BYTES}
use Rattle.ev_io.specs.declared.faults.LineFault.{LineFault}
use Rattle.ev_io.specs.declared.found.Found.{Found}
use Rattle.ev_io.specs.Lines.{lines_of, HasNoFeed, IsClosed}
use Rattle.ev_io.specs.LineFaults.{IsSoundUpTo}
use Rattle.ev_io.specs.Outside.{Takes}
use Rattle.ev_io.specs.Found.{IsOpen, Finds}

-- how many bytes were taken and how many lines given, the bytes taken and not given yet, whether
-- the source gave its end, and the fault that is reported from now on
pub record LinesState : Type 0 where
  pub taken : ℕ
  pub given : ℕ
  pub pending : List ℕ
  pub ended : Bool
  pub told : Option LineFault

-- no byte was taken yet
abbrev pub IsFresh : LinesState → Type 0
IsFresh state = state ≡ record { taken = 0; given = 0; pending = []; ended = false; told = None }

-- what was found comes next in the bytes taken; where nothing was, more bytes are wanted
abbrev pub FindsNext : LinesState → Option Found → Type 0
FindsNext state next = Finds state.taken state.given state.pending state.ended next

-- these are the bytes taken so far: first those of the lines given, `front`, which are closed but
-- for a last line at the end, and in which there is no fault, then those not given yet
pub record HasTaken (state : LinesState) (bytes : List ℕ) : Type 0 where
  pub front : List ℕ
  pub parts : bytes ≡ front ++ state.pending
  pub count : state.taken ≡ length bytes
  pub lines : state.given ≡ length (lines_of front)
  pub closed : IsClosed front ⊎ (IsTrue state.ended × (state.pending ≡ []))
  pub sound : IsSoundUpTo bytes (length front)

-- a reader takes at most one byte more than an input may have, and holds at most the longest line
-- and a piece of the source
pub record IsWithin (state : LinesState) : Type 0 where
  pub taken : state.taken ≤ MAX_INPUT_BYTES + 1
  pub pending : length state.pending ≤ MAX_LINE_BYTES + MAX_PIECE_BYTES

-- what the fields of a reader keep: how many bytes are before the pending ones, how many of these
-- were searched, how many bytes were taken, the buffer, and what a read puts its bytes into
pub record IsKept (behind seen count : ℕ) (buffer piece pending : List ℕ) : Type 0 where
  pub start : behind ≤ length buffer
  pub searched : seen ≤ length pending
  pub none : HasNoFeed pending seen
  pub part : length pending ≤ count
  pub at_most : count ≤ MAX_INPUT_BYTES + 1
  pub short : length pending ≤ MAX_LINE_BYTES + MAX_PIECE_BYTES
  pub given : count ≤ MAX_INPUT_BYTES + length pending
  pub room : length piece ≡ MAX_PIECE_BYTES

-- more bytes were taken of the source: none, or before the last piece of them neither a line's end
-- nor a fault was there
pub record Grows (left_old left_new : Option (List ℕ)) (old new : LinesState) (more : List ℕ) : Type 0 where
  pub takes : Takes left_old left_new more
  pub pending : new.pending ≡ old.pending ++ more
  pub taken : new.taken ≡ old.taken + length more
  pub given : new.given ≡ old.given
  pub needed : (more ≡ []) ⊎ ((n : ℕ) × (n < length more) × (length more ≤ n + MAX_PIECE_BYTES) × IsOpen (old.taken + n) old.given (old.pending ++ take n more))
