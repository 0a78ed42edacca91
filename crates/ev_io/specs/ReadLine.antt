-- What a call for the next line does, by its answer. `all` are the bytes taken before it and in it.
use Rattle.std.specs.Prelude.{◌≡◌, ℕ, ◌+◌, ◌<◌, ◌≤◌, ◌⊎◌, Bool, IsTrue, List, [], ◌∷◌, ◌++◌, length, take, drop, Option, None, Some, Result, Ok, Err}
use Rattle.ev_io.specs.declared.limits.TheConstants.{MAX_PIECE_BYTES}
use Rattle.ev_io.specs.declared.faults.LineFault.{LineFault}
use Rattle.ev_io.specs.declared.faults.LineFault.TheVariants.{TooLong, TooMany, TooLarge, Failed, OutOfMemory}
use Rattle.ev_io.specs.declared.faults.LineEnd.{LineEnd}
use Rattle.ev_io.specs.declared.faults.LineEnd.TheVariants.{Line, End}
use Rattle.ev_io.specs.Outside.{Rose, Takes}
use Rattle.ev_io.specs.Lines.{lines_of, feeds_in}
use Rattle.ev_io.specs.LineFaults.{IsSoundUpTo, IsFirstLineFault}
use Rattle.ev_io.specs.LinesState.{LinesState, HasTaken}

-- of these bytes each line that is closed was given, there is no fault in them, and they go on
pub record IsUnfinished (given : ℕ) (ended : Bool) (bytes : List ℕ) : Type 0 where
  pub goes_on : ¬ (IsTrue ended)
  pub closed : feeds_in bytes ≡ given
  pub sound : IsSoundUpTo bytes (length bytes)

-- the next line was given: it is closed, or the last one
pub record GivesLine (old new : LinesState) (all text : List ℕ) : Type 0 where
  pub line : drop old.given (lines_of all) ≡ text ∷ drop new.given (lines_of all)
  pub number : new.given ≡ old.given + 1
  pub ends : (old.given < feeds_in all) ⊎ IsTrue new.ended
  pub untold : new.told ≡ None

-- each line was given, there is no fault in them, and the source gave its end
pub record ReachesEnd (old new : LinesState) (all : List ℕ) : Type 0 where
  pub lines : length (lines_of all) ≡ new.given
  pub number : new.given ≡ old.given
  pub ended : IsTrue new.ended
  pub sound : IsSoundUpTo all (length all)
  pub untold : new.told ≡ None

-- the first fault is in the line after those given, and is reported from now on
pub record TellsFault (old new : LinesState) (all : List ℕ) (fault : LineFault) : Type 0 where
  pub first : (place : ℕ) × IsFirstLineFault all place fault × (feeds_in (take place all) ≡ new.given)
  pub number : new.given ≡ old.given
  pub told : new.told ≡ Some fault

-- a read failed before the next line's end and before a fault, and that is reported from now on
pub record FailsToRead (old new : LinesState) (all : List ℕ) : Type 0 where
  pub unfinished : IsUnfinished new.given new.ended all
  pub number : new.given ≡ old.given
  pub told : new.told ≡ Some Failed

-- there was no memory: no line was given, and the next call goes on
pub record LacksMemory (old new : LinesState) : Type 0 where
  pub number : new.given ≡ old.given
  pub untold : new.told ≡ None

-- what an answer means; but for a line, `out` is as before
abbrev pub Means : LinesState → LinesState → List ℕ → List ℕ → List ℕ → Result LineEnd LineFault → Type 0
Means old new all before after (Ok Line) = GivesLine old new all after
Means old new all before after (Ok End) = ReachesEnd old new all × (after ≡ before)
Means old new all before after (Err TooLong) = TellsFault old new all TooLong × (after ≡ before)
Means old new all before after (Err TooMany) = TellsFault old new all TooMany × (after ≡ before)
Means old new all before after (Err TooLarge) = TellsFault old new all TooLarge × (after ≡ before)
Means old new all before after (Err Failed) = FailsToRead old new all × (after ≡ before)
Means old new all before after (Err OutOfMemory) = LacksMemory old new × (after ≡ before)

-- a call that was made when `bytes` were taken took `more`: none, or before the last piece of them
-- the bytes were unfinished. The lines given before stay those of all bytes.
pub record ReadsLine (old new : LinesState) (bytes more before after : List ℕ) (answer : Result LineEnd LineFault) : Type 0 where
  pub taken : HasTaken new (bytes ++ more)
  pub kept : take old.given (lines_of (bytes ++ more)) ≡ take old.given (lines_of bytes)
  pub means : Means old new (bytes ++ more) before after answer
  pub needed : (more ≡ []) ⊎ ((n : ℕ) × (n < length more) × (length more ≤ n + MAX_PIECE_BYTES) × IsUnfinished old.given old.ended (bytes ++ take n more))

-- where no fault was reported yet, a call takes some bytes, and reads a line
-- of whatever bytes were taken before and these
abbrev pub ReadsOn : {S : Type 0} → (S → Option (List ℕ)) → S → S → LinesState → LinesState → List ℕ → List ℕ → Result LineEnd LineFault → Type 0
ReadsOn left source source' old new before after answer =
    old.told ≡ None → (more : List ℕ) × Takes (left source) (left source') more × ((bytes : List ℕ) → HasTaken old bytes → ReadsLine old new bytes more before after answer)

-- the source stays as it was, unless the bytes taken before are unfinished
abbrev pub AsksWhereUnfinished : {S : Type 0} → S → S → LinesState → Type 0
AsksWhereUnfinished source source' old = (bytes : List ℕ) → HasTaken old bytes → (source' ≡ source) ⊎ IsUnfinished old.given old.ended bytes

-- where a reader doesn't know after a call that the source gave its end, it didn't before,
-- and the source didn't give it in the call
pub record LeavesOpen {S : Type 0} (ended : S → Bool) (source source' : S) (old new : LinesState) : Type 0 where
  pub before : ¬ (IsTrue new.ended) → ¬ (IsTrue old.ended)
  pub unended : ¬ (IsTrue new.ended) → ended source' ≡ ended source

-- a read failed: one before, as is reported ever after, or one of this call, as the count of faults shows
abbrev pub HasFailed : {S : Type 0} → (S → ℕ) → S → S → LinesState → Type 0
HasFailed faults source source' old = (old.told ≡ Some Failed) ⊎ Rose (faults source) (faults source')
