-- Numbers that rise: each is above those before it.
use Rattle.std.specs.Prelude.{◌≡◌, ◌≤◌, ℕ, Bool, true, false, nat_le, nat_lt, List, [], ◌∷◌, length, drop, Option, None, Some}
use Rattle.std.specs.Ordering.{nat_cmp}
use Rattle.std.specs.List.Sorted.{IsStrictlySortedBy}

-- each number is below those after it
abbrev pub Rise : List ℕ → Type 0
Rise numbers = IsStrictlySortedBy nat_cmp numbers

-- the number is above the other, where there is one
abbrev pub is_above_other : ℕ → Option ℕ → Bool
is_above_other number None = true
is_above_other number (Some other) = nat_lt other number

-- the first of these is at most this number
abbrev pub is_first_up_to : ℕ → List ℕ → Bool
is_first_up_to made [] = false
is_first_up_to made (number ∷ numbers) = nat_le number made

-- this many at the beginning were left out, and the others rise where they are known to
pub record AreStored (gone : ℕ) (rise : Bool) (numbers : List ℕ) : Type 0 where
  pub within : gone ≤ length numbers
  pub rising : rise ≡ true → Rise (drop gone numbers)
