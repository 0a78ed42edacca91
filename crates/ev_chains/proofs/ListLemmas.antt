-- Lists that grow by one, and lists in order.
use Rattle.std.proofs.Common.{◌≡◌, ℕ, ◌+◌, ◌-◌, ◌<◌, ◌≤◌, suc, zero, Bool, true, false, ◌==◌, cond, nat_le, List, [], ◌∷◌, ◌++◌, map, length, take, get_or, refl, sym, ap, ◌∙◌, arith}
use Rattle.std.specs.List.{sum_by, range_with_len, AllByRecursion}
use Rattle.std.specs.List.Sorted.{IsPermutation, IsSorted, IsNonDecreasingBy}
use Rattle.std.specs.Ordering.{nat_cmp}
use Rattle.std.proofs.lemmas.Bool.Decides.{nat_tests}
use Rattle.std.proofs.lemmas.List.{map_more, map-append}
use Rattle.std.proofs.lemmas.List.Sums.{sum_by-cons}
use Rattle.std.proofs.lemmas.List.Sorted.{IsNonDecreasingBy-from_sort, sum_by-IsPermutation}
use Rattle.ev_model.specs.Publishing.{ascending}
use Rattle.ev_ledger.proofs.OrderLemmas.{IsOrder, Rises, sum_sorted, sorted_rises}

-- one more element of a list that is mapped twice
pub maps_more : {X D E : Type 0} (f : X → D) (g : D → E) (xs : List X) (i : ℕ) (x : X) (done : List E) (here : E)
    → i < length xs → x ≡ get_or xs i x → done ≡ map g (map f (take i xs)) → here ≡ g (f x)
    → done ++ here ∷ [] ≡ map g (map f (take (i + 1) xs))
maps_more f g xs i x done here lt at so is =
    (λ j. so j ++ (is ∙ ap (λ e. g (f e)) at) j ∷ [])
    ∙ sym (map-append g (map f (take i xs)) (f (get_or xs i x) ∷ []))
    ∙ ap (map g) (sym (map_more f xs i x lt))

-- ---- a sort of numbers

pub nat_order : IsOrder nat_le
nat_order = record { total = λ x y h. grind (arith, nat_tests); trans = λ x y z h k. grind (arith, nat_tests) }

abbrev pub counts : ℕ → ℕ → ℕ
counts n x = cond (x == n) 1 0

counts_own : (n : ℕ) → counts n n ≡ 1
counts_own n = grind (arith, nat_tests)

counts_other : (n x : ℕ) → n < x → counts n x ≡ 0
counts_other n x lt = grind (arith, nat_tests)

-- a number below all elements is none of them
below_all : (n : ℕ) (xs : List ℕ) → AllByRecursion (λ y. nat_le (suc n) y ≡ true) xs → sum_by (counts n) xs ≡ 0
below_all n [] all = refl
below_all n (x ∷ xs) all =
    let lt : n < x = grind (arith, nat_tests) in
    let first = sum_by-cons (counts n) x xs in
    let here = counts_other n x lt in
    let rest = below_all n xs all.1 in
    omega (arith, first, here, rest)

all_above : (n x : ℕ) (xs : List ℕ) → n < x → AllByRecursion (λ y. nat_le x y ≡ true) xs → AllByRecursion (λ y. nat_le (suc n) y ≡ true) xs
all_above n x [] lt all = tt
all_above n x (y ∷ ys) lt all = (grind (arith, nat_tests, all.0), all_above n x ys lt all.1)

-- where one list begins with a smaller number than the other, it has more of it
smaller : (x y : ℕ) (xs ys : List ℕ) → Rises nat_le (y ∷ ys) → sum_by (counts x) (x ∷ xs) ≡ sum_by (counts x) (y ∷ ys) → y ≤ x
smaller x y xs ys rises same = by (nat_le y x) refl
  where
    by : (t : Bool) → nat_le y x ≡ t → y ≤ x
    by true h = grind (arith, nat_tests)
    by false h =
        let lt : x < y = grind (arith, nat_tests) in
        let none = below_all x (y ∷ ys) (grind (arith, nat_tests), all_above x y ys lt rises.0) in
        let first = sum_by-cons (counts x) x xs in
        let own = counts_own x in
        absurd (omega (arith, none, first, own, same))

-- lists in order with the same counts are the same
pub same_counts : (xs ys : List ℕ) → Rises nat_le xs → Rises nat_le ys → ((n : ℕ) → sum_by (counts n) xs ≡ sum_by (counts n) ys) → xs ≡ ys
same_counts [] [] one other same = refl
same_counts [] (y ∷ ys) one other same = absurd (let h = same y in let first = sum_by-cons (counts y) y ys in let own = counts_own y in omega (arith, h, first, own))
same_counts (x ∷ xs) [] one other same = absurd (let h = same x in let first = sum_by-cons (counts x) x xs in let own = counts_own x in omega (arith, h, first, own))
same_counts (x ∷ xs) (y ∷ ys) one other same =
    let low = smaller x y xs ys other (same x) in
    let high = smaller y x ys xs one (sym (same y)) in
    let head : x ≡ y = omega (arith, low, high) in
    let rest = same_counts xs ys one.1 other.1 (λ n.
    let first = sum_by-cons (counts n) x xs in
    let second = sum_by-cons (counts n) y ys in
    let heads = ap (counts n) head in
    let both = same n in
    omega (arith, first, second, heads, both)) in
    λ i. head i ∷ rest i

-- what doesn't fall rises
all_from : (x : ℕ) (xs : List ℕ) → ((j : ℕ) → j < length xs → x ≤ get_or xs j 0) → AllByRecursion (λ y. nat_le x y ≡ true) xs
all_from x [] h = tt
all_from x (y ∷ ys) h = (let le : x ≤ y = h 0 (omega arith) in grind (arith, nat_tests), all_from x ys (λ j lt. h (suc j) (omega arith)))

rises_from : (xs : List ℕ) → IsNonDecreasingBy (λ x. x) xs → Rises nat_le xs
rises_from [] h = tt
rises_from (x ∷ xs) h =
    (all_from x xs (λ j lt. h 0 (suc j) 0 (omega arith) (omega arith)), rises_from xs (λ i j d le lt. h (suc i) (suc j) d (omega arith) (omega arith)))

-- a sort gives the numbers from the least
pub sorted_ascending : (xs ys : List ℕ) → IsPermutation xs ys → IsSorted nat_cmp ys → ys ≡ ascending xs
sorted_ascending xs ys moved sorted =
    same_counts ys (ascending xs) (rises_from ys (IsNonDecreasingBy-from_sort (λ x. x) ys sorted)) (sorted_rises nat_le nat_order xs)
    (λ n. sum_by-IsPermutation (counts n) xs ys moved ∙ sym (sum_sorted nat_le (counts n) xs))

-- one more number of a range
pub range_push : (a n : ℕ) → range_with_len a (suc n) ≡ range_with_len a n ++ (a + n) ∷ []
range_push a zero = let none : a ≡ a + 0 = omega arith in ap (λ k. k ∷ []) none
range_push a (suc n) =
    let same : a + 1 + n ≡ a + suc n = omega arith in
    ap (λ l. a ∷ l) (range_push (a + 1) n ∙ ap (λ k. range_with_len (a + 1) n ++ k ∷ []) same)

pub range_up : (low number : ℕ) → low ≤ number → range_with_len (low + 1) (number + 1 - low) ≡ range_with_len (low + 1) (number - low) ++ (number + 1) ∷ []
range_up low number le =
    let more : number + 1 - low ≡ suc (number - low) = omega arith in
    let last : low + 1 + (number - low) ≡ number + 1 = omega arith in
    ap (range_with_len (low + 1)) more ∙ range_push (low + 1) (number - low) ∙ ap (λ k. range_with_len (low + 1) (number - low) ++ k ∷ []) last
