-- A number is found exactly where it is among the numbers.
use Rattle.std.proofs.Common.{◌≡◌, ℕ, ◌||◌, ◌==◌, Bool, true, false, cond, List, [], ◌∷◌, Some, find, map, refl}
use Rattle.std.specs.Option.{is_some}
use Rattle.ev_model.specs.Picture.{has_number}

pub found_number : {X : Type 0} (number : X → ℕ) (n : ℕ) (xs : List X) → is_some (find (λ x. number x == n) xs) ≡ has_number n (map number xs)
found_number number n [] = refl
found_number number n (x ∷ xs) = by (number x == n) (found_number number n xs)
  where
    by : (t : Bool) → is_some (find (λ y. number y == n) xs) ≡ has_number n (map number xs)
        → is_some (cond t (Some x) (find (λ y. number y == n) xs)) ≡ (t || has_number n (map number xs))
    by true rest = refl
    by false rest = rest
