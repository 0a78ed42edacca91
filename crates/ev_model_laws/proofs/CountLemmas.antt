-- How many elements of a list pass a test.
use Rattle.std.proofs.Common.{◌≡◌, ℕ, ◌≤◌, Bool, true, false, cond, List, [], ◌∷◌, length, filter, refl, le_trans, arith}
use Rattle.std.proofs.lemmas.Bool.{false≢true}

-- how many of these pass
abbrev pub count : {X : Type 0} → (X → Bool) → List X → ℕ
count test xs = length (filter test xs)

module _ {X : Type 0} where
  -- where one element passes only if another does, it adds no more
  pub fewer_by_one : (this that : Bool) (x other : X) (xs others : List X)
      → (this ≡ true → that ≡ true) → length xs ≤ length others → length (cond this (x ∷ xs) xs) ≤ length (cond that (other ∷ others) others)
  fewer_by_one true true x other xs others implies le = omega arith
  fewer_by_one true false x other xs others implies le = absurd (false≢true (implies refl))
  fewer_by_one false true x other xs others implies le = omega arith
  fewer_by_one false false x other xs others implies le = le

  pub one_more : (test : Bool) (x : X) (xs : List X) → length xs ≤ length (cond test (x ∷ xs) xs)
  one_more true x xs = omega arith
  one_more false x xs = omega arith

  fewer_by_left : (test : X → Bool) (kept : Bool) (x : X) (xs others : List X)
      → count test xs ≤ count test others → count test (cond kept (x ∷ xs) xs) ≤ count test (x ∷ others)
  fewer_by_left test true x xs others le = fewer_by_one (test x) (test x) x x _ _ (λ passes. passes) le
  fewer_by_left test false x xs others le = le_trans le (one_more (test x) x (filter test others))

  -- no more pass among some of the elements
  pub fewer_left : (test keeps : X → Bool) (xs : List X) → count test (filter keeps xs) ≤ count test xs
  fewer_left test keeps [] = omega arith
  fewer_left test keeps (x ∷ xs) = fewer_by_left test (keeps x) x (filter keeps xs) xs (fewer_left test keeps xs)
