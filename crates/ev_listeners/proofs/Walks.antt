-- A walk over a list: what is left of it from a place on.
use Rattle.std.proofs.Common.{◌≡◌, ◌∙◌, ℕ, ◌+◌, ◌<◌, suc, List, ◌∷◌, drop, length, get_or, sym, ap, arith}
use Rattle.std.proofs.Math.Seq.{drop-cons}

-- what is at a place is the first of what is left from there on
pub drop_at : {A : Type 0} (xs : List A) (i : ℕ) (x : A) → i < length xs → x ≡ get_or xs i x → drop i xs ≡ x ∷ drop (i + 1) xs
drop_at xs i x within is =
    drop-cons xs i x within ∙ ap (λ n. get_or xs i x ∷ drop n xs) (next i) ∙ ap (λ (y : _). y ∷ drop (i + 1) xs) (sym is)
  where
    next : (j : ℕ) → suc j ≡ j + 1
    next j = omega arith
