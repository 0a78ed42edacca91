-- Elements of lists, by their places.
use Rattle.std.proofs.Common.{◌≡◌, ℕ, zero, suc, ◌<◌, ◌≤◌, List, [], ◌∷◌, ◌++◌, length, take, Some, refl, ap, arith}
use Rattle.std.specs.Prelude.{slice_get}

-- ---- the first n

-- the first n, and those from there to the m-th
pub taken_parts : {X : Type 0} (n m : ℕ) (xs : List X) → n ≤ m → (more : List X) × (take m xs ≡ take n xs ++ more)
taken_parts zero m xs h = (take m xs, refl)
taken_parts (suc n) zero xs h = absurd (omega arith)
taken_parts (suc n) (suc m) [] h = ([], refl)
taken_parts (suc n) (suc m) (x ∷ xs) h = let rest = taken_parts n m xs (omega arith) in (rest.0, ap (λ ys. x ∷ ys) rest.1)

pub taken_all : {X : Type 0} (n : ℕ) (xs : List X) → length xs ≤ n → take n xs ≡ xs
taken_all zero [] h = refl
taken_all (suc n) [] h = refl
taken_all zero (x ∷ xs) h = absurd (omega (arith, h))
taken_all (suc n) (x ∷ xs) h = ap (λ ys. x ∷ ys) (taken_all n xs (omega (arith, h)))

pub get_taken : {X : Type 0} (xs : List X) (n i : ℕ) (x : X) → i < n → slice_get xs i ≡ Some x → slice_get (take n xs) i ≡ Some x
get_taken [] n i x less h = absurd (cc)
get_taken (y ∷ xs) zero i x less h = absurd (omega (arith, less))
get_taken (y ∷ xs) (suc n) zero x less h = h
get_taken (y ∷ xs) (suc n) (suc i) x less h = get_taken xs n i x (omega (arith, less)) h

-- the first n of more of them
pub taken_twice : {X : Type 0} (n m : ℕ) (xs : List X) → n ≤ m → take n (take m xs) ≡ take n xs
taken_twice zero zero [] h = refl
taken_twice zero zero (x ∷ xs) h = refl
taken_twice zero (suc m) [] h = refl
taken_twice zero (suc m) (x ∷ xs) h = refl
taken_twice (suc n) zero xs h = absurd (omega arith)
taken_twice (suc n) (suc m) [] h = refl
taken_twice (suc n) (suc m) (x ∷ xs) h = ap (λ ys. x ∷ ys) (taken_twice n m xs (omega arith))
