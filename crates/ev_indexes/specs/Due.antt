-- Sets of numbers.
use Rattle.std.specs.Prelude.{ℕ, Bool, true, false, nat_eq, List, [], ◌∷◌}
use Rattle.std.specs.List.{list_any}

-- the number is among these
abbrev pub is_one_of : List ℕ → ℕ → Bool
is_one_of numbers number = list_any (nat_eq number) numbers

-- there is a number
abbrev pub has_number : List ℕ → Bool
has_number [] = false
has_number (number ∷ numbers) = true
