-- Words for what a source and a sink count and append.
use Rattle.std.specs.Prelude.{◌≡◌, ℕ, Bool, ◌+◌, ◌-◌, ◌^◌, ◌<◌, ◌≤◌, ◌⊎◌, min, List, length, take, Option}
use Rattle.std.specs.Io.KnownBytes.{append_known, prepend_known}

-- the last value of a counter of 64 bits
abbrev pub last_count : ℕ
last_count = 2 ^ 64 - 1

-- one more, or still the last value of a counter
abbrev pub raised : ℕ → ℕ
raised count = min (count + 1) last_count

-- the count rose: it is greater than before, or is at the last value of a counter
abbrev pub Rose : ℕ → ℕ → Type 0
Rose before after = (before < after) ⊎ (after ≡ last_count)

-- a read failed, and a source that hadn't given its end before didn't give it in between
pub record ReadFails {S : Type 0} (ended : S → Bool) (faults : S → ℕ) (source source' : S) : Type 0 where
  pub unended : ended source' ≡ ended source
  pub rose : Rose (faults source) (faults source')

-- known bytes gained a prefix of these bytes, and what isn't known stays unknown
abbrev pub AppendsPrefix : Option (List ℕ) → Option (List ℕ) → List ℕ → Type 0
AppendsPrefix before after bytes = (n : ℕ) × (n ≤ length bytes) × (after ≡ append_known before (take n bytes))

-- these bytes were taken: known bytes begin with them and lose exactly them, and what isn't known
-- stays unknown
abbrev pub Takes : Option (List ℕ) → Option (List ℕ) → List ℕ → Type 0
Takes before after bytes = before ≡ prepend_known bytes after
