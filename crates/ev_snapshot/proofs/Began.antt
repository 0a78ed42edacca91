-- Whether a listener has a chain of an origin, by the first that has one.
use Rattle.std.proofs.Common.{◌≡◌, ℕ, ◌||◌, Bool, true, false, cond, List, [], ◌∷◌, find, Some, option_map, refl}
use Rattle.std.specs.List.{list_any}
use Rattle.std.specs.Option.{is_some}

-- a search finds something exactly where something passes its test
pub found_any : {X : Type 0} (number : X → ℕ) (p : X → Bool) (xs : List X) → is_some (option_map number (find p xs)) ≡ list_any p xs
found_any number p [] = refl
found_any number p (x ∷ xs) = by (p x) (found_any number p xs)
  where
    by : (b : Bool) → is_some (option_map number (find p xs)) ≡ list_any p xs
        → is_some (option_map number (cond b (Some x) (find p xs))) ≡ b || list_any p xs
    by true rest = refl
    by false rest = rest
