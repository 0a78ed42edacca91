-- Numbers that rise: one more after them, one of them left out, and what the first of them decides;
-- and how they are stored.
use Rattle.std.proofs.Common.{◌≡◌, ◌∙◌, ℕ, zero, suc, ◌+◌, ◌-◌, drop, ◌<◌, ◌≤◌, Bool, true, false, cond, not, ◌||◌, List, [], ◌∷◌, ◌++◌, Result, Ok, Err, MatchResult, get_or, length, nat_eq, nat_le, nat_lt, nat_cmp, remove, slice_get, length-append, Less, refl, sym, ap, subst, arith}
use Rattle.std.specs.Cmp.{ranks, nat_cmp_is}
use Rattle.std.specs.Ordering.{MatchOrdering}
use Rattle.std.specs.List.{AllByRecursion, list_any}
use Rattle.std.specs.List.Sorted.{IsStrictlySortedBy, IsBinarySearchResult}
use Rattle.std.proofs.lemmas.List.{drop-append-le}
use Rattle.std.proofs.lemmas.List.Kept.{IsStrictlySortedBy-filter}
use Rattle.std.proofs.lemmas.Bool.{eq-eqb, eqb-true, leb-true, leb-false, ltb-true, ltb-false}
use Rattle.std.proofs.lemmas.Cmp.{nat_cmp_total}
use Rattle.std.proofs.lemmas.List.Sorted.{searched}
use Rattle.std.proofs.lemmas.Map.Keys.{below_from_sorted, non_decreasing_from_sorted}
use Rattle.ev_indexes.specs.Numbers.{Rise, AreStored, is_above_other, is_first_up_to}
use Rattle.ev_indexes.specs.Watched.{numbers_without}

-- each of these is above the number
abbrev Above : ℕ → List ℕ → Type 0
Above x ys = AllByRecursion (λ y. nat_cmp x y ≡ Less) ys

less : (x y : ℕ) → nat_cmp x y ≡ Less → x < y
less x y e = subst (λ r. MatchOrdering r (x < y) (x ≡ y) (y < x)) e (ranks x y)

apart : (x y : ℕ) → (x ≡ y → ⊥) → nat_eq x y ≡ false
apart x y differ = by (nat_eq x y) refl
  where
    by : (b : Bool) → nat_eq x y ≡ b → b ≡ false
    by true e = absurd (differ (eqb-true x y e))
    by false e = refl

-- what is above a number is above all below it
above-lower : (x y : ℕ) (zs : List ℕ) → nat_cmp x y ≡ Less → Above y zs → Above x zs
above-lower x y [] e all = tt
above-lower x y (z ∷ zs) e all = (nat_cmp_total.trans x y z e all.0, above-lower x y zs e all.1)

pub rise-none : Rise []
unfolding IsStrictlySortedBy
rise-none = tt

-- a number above the last goes after them
pub rise-more : (n : ℕ) (xs : List ℕ) → Rise xs → is_above_other n (slice_get xs (length xs - 1)) ≡ true → Rise (xs ++ n ∷ [])
unfolding IsStrictlySortedBy
rise-more n [] h e = (tt, tt)
rise-more n (x ∷ []) h e = ((sym (nat_cmp_is x n Less (ltb-true x n e)), tt), (tt, tt))
rise-more n (x ∷ y ∷ ys) h e =
    let last : length (x ∷ y ∷ ys) - 1 ≡ suc (length (y ∷ ys) - 1) = omega arith in
    let rest = rise-more n (y ∷ ys) h.1 (sym (ap (λ k. is_above_other n (slice_get (x ∷ y ∷ ys) k)) last) ∙ e) in
    ((h.0.0, above-lower x y (ys ++ n ∷ []) h.0.0 rest.0), rest)

-- a number is none of those above it
kept-above : (x : ℕ) (ys : List ℕ) → Above x ys → numbers_without x ys ≡ ys
kept-above x [] all = refl
kept-above x (y ∷ ys) all =
    let far : nat_eq x y ≡ false = apart x y (λ e. omega (arith, less x y all.0, e)) in
    (λ i. cond (not (far i)) (y ∷ numbers_without x ys) (numbers_without x ys)) ∙ ap (λ zs. y ∷ zs) (kept-above x ys all.1)

-- the place where a number is, is the only one
without-at : (x : ℕ) (xs : List ℕ) (i : ℕ) → Rise xs → i < length xs → get_or xs i 0 ≡ x → remove xs i ≡ numbers_without x xs
unfolding IsStrictlySortedBy
without-at x [] i h l e = absurd (omega (arith, l))
without-at x (y ∷ ys) zero h l e =
    sym ((λ i. cond (not (eq-eqb x y (sym e) i)) (y ∷ numbers_without x ys) (numbers_without x ys)) ∙ kept-above x ys (subst (λ z. Above z ys) e h.0))
without-at x (y ∷ ys) (suc i) h l e =
    let before : y < get_or ys i 0 = below_from_sorted (y ∷ ys) 0 (suc i) 0 h (omega arith) l in
    let far : nat_eq x y ≡ false = apart x y (λ s. omega (arith, before, e, s)) in
    ap (λ zs. y ∷ zs) (without-at x ys i h.1 (omega (arith, l)) e) ∙ sym (λ j. cond (not (far j)) (y ∷ numbers_without x ys) (numbers_without x ys))

-- a number that is nowhere
without-none : (x : ℕ) (xs : List ℕ) → ((k : ℕ) → k < length xs → nat_eq x (get_or xs k 0) ≡ false) → xs ≡ numbers_without x xs
without-none x [] none = refl
without-none x (y ∷ ys) none =
    ap (λ zs. y ∷ zs) (without-none x ys (λ k l. none (suc k) (omega (arith, l))))
    ∙ sym (λ j. cond (not (none 0 (omega arith) j)) (y ∷ numbers_without x ys) (numbers_without x ys))

-- what a binary search finds is the number, and where it finds none, the number is nowhere
pub halves : (x : ℕ) (xs : List ℕ) (r : Result ℕ ℕ) → Rise xs → IsBinarySearchResult (λ y. nat_cmp y x) xs r
    → MatchResult r (λ i. remove xs i ≡ numbers_without x xs) (λ i. xs ≡ numbers_without x xs)
halves x xs r h found = by r (searched xs x r found (λ i j le lt. non_decreasing_from_sorted xs h i j 0 le lt))
  where
    by : (r : Result ℕ ℕ)
        → MatchResult r (λ i. (i < length xs) × (get_or xs i 0 ≡ x)) (λ i. (i ≤ length xs) × ((k : ℕ) → k < i → get_or xs k 0 < x) × ((k : ℕ) → i ≤ k → k < length xs → x < get_or xs k 0))
        → MatchResult r (λ i. remove xs i ≡ numbers_without x xs) (λ i. xs ≡ numbers_without x xs)
    by (Ok i) at = without-at x xs i h at.0 at.1
    by (Err i) parts = without-none x xs far
      where
        far : (k : ℕ) → k < length xs → nat_eq x (get_or xs k 0) ≡ false
        far k l = side (nat_lt k i) refl
          where
            side : (b : Bool) → nat_lt k i ≡ b → nat_eq x (get_or xs k 0) ≡ false
            side true e = apart x (get_or xs k 0) (λ s. omega (arith, parts.1 k (ltb-true k i e), s))
            side false e = apart x (get_or xs k 0) (λ s. omega (arith, parts.2 k (ltb-false k i e) l, s))

-- where the first is above a number, all are
pub first-decides : (made : ℕ) (xs : List ℕ) → Rise xs → is_first_up_to made xs ≡ list_any (λ n. nat_le n made) xs
unfolding IsStrictlySortedBy
first-decides made [] h = refl
first-decides made (x ∷ xs) h = by (nat_le x made) refl
  where
    none : made < x → (ys : List ℕ) → Above x ys → list_any (λ n. nat_le n made) ys ≡ false
    none high [] all = refl
    none high (y ∷ ys) all =
        let off : nat_le y made ≡ false = over (nat_le y made) refl in
        (λ i. off i || list_any (λ n. nat_le n made) ys) ∙ none high ys all.1
      where
        over : (b : Bool) → nat_le y made ≡ b → b ≡ false
        over true e = absurd (omega (arith, leb-true y made e, high, less x y all.0))
        over false e = refl

    by : (b : Bool) → nat_le x made ≡ b → b ≡ (b || list_any (λ n. nat_le n made) xs)
    by true e = refl
    by false e = sym (none (leb-false x made e) xs h.0)

-- of numbers after places that are empty, one is taken out after them
pub remove-behind : (gone i : ℕ) (xs : List ℕ) → gone ≤ length xs → drop gone (remove xs (gone + i)) ≡ remove (drop gone xs) i
remove-behind zero i xs l = let here : 0 + i ≡ i = omega arith in ap (remove xs) here
remove-behind (suc gone) i [] l = absurd (omega (arith, l))
remove-behind (suc gone) i (x ∷ xs) l =
    let next : suc gone + i ≡ suc (gone + i) = omega arith in
    ap (λ k. drop (suc gone) (remove (x ∷ xs) k)) next ∙ remove-behind gone i xs (omega (arith, l))

-- and the empty places stay
pub within-behind : (gone i : ℕ) (xs : List ℕ) → gone ≤ length xs → gone ≤ length (remove xs (gone + i))
within-behind zero i xs l = omega arith
within-behind (suc gone) i [] l = absurd (omega (arith, l))
within-behind (suc gone) i (x ∷ xs) l =
    let next : suc gone + i ≡ suc (gone + i) = omega arith in
    subst (λ k. suc gone ≤ length (remove (x ∷ xs) k)) (sym next) (omega (arith, within-behind gone i xs (omega (arith, l))))

-- they are stored as before, where one number was left out
pub stored-less : (x gone : ℕ) (rise : Bool) (stored numbers : List ℕ) → gone ≤ length stored → drop gone stored ≡ numbers_without x numbers
    → (rise ≡ true → Rise numbers) → AreStored gone rise stored
stored-less x gone rise stored numbers within left rising = record {
  within = within;
  rising = λ known. subst Rise (sym left) (IsStrictlySortedBy-filter nat_cmp (λ n. not (nat_eq x n)) numbers (rising known));
}

-- and where one more is stored after them
pub stored-more : (n gone : ℕ) (rise more : Bool) (stored : List ℕ) → AreStored gone rise stored
    → (more ≡ true → (rise ≡ true) × (is_above_other n (slice_get (drop gone stored) (length (drop gone stored) - 1)) ≡ true)) → AreStored gone more (stored ++ n ∷ [])
stored-more n gone rise more stored kept last = record {
  within = longer stored kept.within;
  rising = λ known. subst Rise (sym (drop-append-le gone stored (n ∷ []) kept.within)) (rise-more n (drop gone stored) (kept.rising (last known).0) (last known).1);
}
  where
    longer : (xs : List ℕ) → gone ≤ length xs → gone ≤ length (xs ++ n ∷ [])
    longer xs l = omega (arith, length-append xs (n ∷ []), l)
