-- The index of the generations that may wait for a drain timeout: by a listener's name their numbers.
use Rattle.std.specs.Prelude.{◌≡◌, ◌≢◌, ℕ, Bool, true, false, not, ◌==◌, if◌then◌else◌, List, [], ◌∷◌, ◌++◌, filter, Some, unwrap_or}
use Rattle.std.specs.Map.{lookup}
use Rattle.std.specs.Str.{bytes_eq}
use Rattle.ev_model.specs.Picture.{has_number}
use Rattle.ev_drain.specs.Retired.{Retired, is_waiting, numbers_waiting}

-- names, each with numbers
abbrev pub WaitersKept : Type 0
WaitersKept = List (List ℕ × List ℕ)

-- the numbers under a name; no entry is none
abbrev pub numbers_under : WaitersKept → List ℕ → List ℕ
numbers_under kept name = unwrap_or (lookup (bytes_eq name) kept) []

-- these numbers without one
abbrev pub without_number : ℕ → List ℕ → List ℕ
without_number number numbers = filter (λ n. not (n == number)) numbers

-- each of these numbers is one of the others
abbrev pub AreAmong : List ℕ → List ℕ → Type 0
AreAmong numbers others = (number : ℕ) → has_number number numbers ≡ true → has_number number others ≡ true

-- each of these rows that waits has its number under its name
abbrev pub HaveWaiters : WaitersKept → List Retired → Type 0
HaveWaiters kept rows = (name : List ℕ) → AreAmong (numbers_waiting name rows) (numbers_under kept name)

-- no name is there with no number under it
abbrev pub HasNoEmpty : WaitersKept → Type 0
HasNoEmpty kept = (name : List ℕ) → lookup (bytes_eq name) kept ≢ Some []

-- nor does a name other than this
abbrev pub HasNoOtherEmpty : List ℕ → WaitersKept → Type 0
HasNoOtherEmpty name kept = (other : List ℕ) → bytes_eq name other ≡ false → lookup (bytes_eq other) kept ≢ Some []

-- the same numbers are under each name
abbrev pub SameUnder : WaitersKept → WaitersKept → Type 0
SameUnder before after = (name : List ℕ) → numbers_under after name ≡ numbers_under before name

-- this number comes after the others under each name that passes the test, and the same as before under each other name
abbrev pub Enters : (List ℕ → Bool) → ℕ → WaitersKept → WaitersKept → Type 0
Enters test number before after =
    (name : List ℕ) → numbers_under after name ≡ numbers_under before name ++ (if test name then number ∷ [] else [])

-- the number of a row comes after the others under each name under which it waits,
-- and the same as before under each other name
abbrev pub EntersWaiter : Retired → WaitersKept → WaitersKept → Type 0
EntersWaiter row before after = Enters (λ name. is_waiting name row) row.number before after

-- under this name is what the change makes of what was there, and the same as before under each other name
abbrev pub ChangesUnder : List ℕ → (List ℕ → List ℕ) → WaitersKept → WaitersKept → Type 0
ChangesUnder name change before after =
    (other : List ℕ) → numbers_under after other ≡ (if bytes_eq name other then change (numbers_under before other) else numbers_under before other)
