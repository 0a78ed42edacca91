-- How a text begins, one element further.
use Rattle.std.proofs.Common.{◌≡◌, ℕ, ◌<◌, ◌≤◌, ◌&&◌, ◌++◌, List, [], ◌∷◌, length, false, refl, arith, nat_eq, slice_index_or}
use Rattle.std.proofs.lemmas.Grind.{common_steps}
use Rattle.ev_model.specs.Paths.{begins_with}

-- a longer text goes on after the prefix with the byte that is there
pub begins_more : (text front : List ℕ) (byte : ℕ) → length front < length text
    → begins_with text (front ++ byte ∷ []) ≡ begins_with text front && nat_eq (slice_index_or text (length front) 0) byte
begins_more [] [] byte less = grind (arith, common_steps)
begins_more [] (f ∷ fs) byte less = grind (arith, common_steps)
begins_more (t ∷ ts) [] byte less = grind (arith, common_steps)
begins_more (t ∷ ts) (f ∷ fs) byte less = grind (arith, common_steps, begins_more ts fs byte (omega arith))

-- a text that isn't longer doesn't go on
pub begins_short : (text front : List ℕ) (byte : ℕ) → length text ≤ length front
    → begins_with text (front ++ byte ∷ []) ≡ false
begins_short [] [] byte few = refl
begins_short [] (f ∷ fs) byte few = refl
begins_short (t ∷ ts) [] byte few = grind (arith, common_steps)
begins_short (t ∷ ts) (f ∷ fs) byte few = grind (arith, common_steps, begins_short ts fs byte (omega arith))
