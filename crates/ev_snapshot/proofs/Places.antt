-- The search for the first place where a running sum is above a number, from a place on.
use Rattle.std.proofs.Common.{◌≡◌, ℕ, ◌+◌, ◌-◌, ◌<◌, ◌≤◌, Bool, true, false, cond, List, ◌∷◌, length, map, take, sum, find, None, Some, Option, arith, nat_lt, get_or, ap, ◌∙◌, subst, suc}
use Rattle.std.specs.List.{range_with_len}
use Rattle.std.proofs.lemmas.Grind.{common_steps}
use Rattle.std.proofs.lemmas.List.{get_or-map, length-map}
use Rattle.std.proofs.lemmas.List.Sums.{sum_by_more, sum_by_more_le}
use Rattle.ev_model.specs.Choice.{place_above}

-- the first of the places from i on where the weights up to it, and its own, sum to more than n
abbrev pub place_from : {X : Type 0} → (X → ℕ) → List X → ℕ → ℕ → Option ℕ
place_from weight xs n i = find (λ place. nat_lt n (sum (take (place + 1) (map weight xs)))) (range_with_len i (length (map weight xs) - i))

-- from the start on it is the search of all places
pub from_start : {X : Type 0} (weight : X → ℕ) (xs : List X) (n : ℕ) → place_above n (map weight xs) ≡ place_from weight xs n 0
from_start weight xs n =
    let all : length (map weight xs) ≡ length (map weight xs) - 0 = omega arith in
    ap (λ k. find (λ place. nat_lt n (sum (take (place + 1) (map weight xs)))) (range_with_len 0 k)) all

range_step : (a n : ℕ) → a < n → range_with_len a (n - a) ≡ a ∷ range_with_len (a + 1) (n - (a + 1))
range_step a n less = let one : n - a ≡ suc (n - (a + 1)) = omega arith in ap (range_with_len a) one

find_no : (p : ℕ → Bool) (a : ℕ) (rest : List ℕ) → p a ≡ false → find p (a ∷ rest) ≡ find p rest
find_no p a rest fails = ap (λ t. cond t (Some a) (find p rest)) fails

find_yes : (p : ℕ → Bool) (a : ℕ) (rest : List ℕ) → p a ≡ true → find p (a ∷ rest) ≡ Some a
find_yes p a rest passes = ap (λ t. cond t (Some a) (find p rest)) passes

-- a running sum with one more weight
pub sum_more : {X : Type 0} (weight : X → ℕ) (xs : List X) (i : ℕ) (d : X) → i < length xs
    → sum (take (i + 1) (map weight xs)) ≡ sum (take i (map weight xs)) + weight (get_or xs i d)
sum_more weight xs i d less =
    sum_by_more (λ x. x) (map weight xs) i 0 (omega (arith, length-map xs weight))
    ∙ ap (λ w. sum (take i (map weight xs)) + w) (get_or-map weight xs i d 0 less)

-- it is within the whole sum
pub sum_fits : {X : Type 0} (weight : X → ℕ) (xs : List X) (i : ℕ) (d : X) → i < length xs
    → sum (take i (map weight xs)) + weight (get_or xs i d) ≤ sum (map weight xs)
sum_fits weight xs i d less =
    subst (λ w. sum (take i (map weight xs)) + w ≤ sum (map weight xs)) (get_or-map weight xs i d 0 less)
    (sum_by_more_le (λ x. x) (map weight xs) i 0 (omega (arith, length-map xs weight)))

-- a place that isn't above n is passed
pub passed : {X : Type 0} (weight : X → ℕ) (xs : List X) (n i : ℕ) → i < length xs → sum (take (i + 1) (map weight xs)) ≤ n
    → place_from weight xs n i ≡ place_from weight xs n (i + 1)
passed weight xs n i less below =
    let above : ℕ → Bool = λ place. nat_lt n (sum (take (place + 1) (map weight xs))) in
    let test : nat_lt n (sum (take (i + 1) (map weight xs))) ≡ false = grind (arith, common_steps) in
    ap (find above) (range_step i (length (map weight xs)) (omega (arith, length-map xs weight)))
    ∙ find_no above i (range_with_len (i + 1) (length (map weight xs) - (i + 1))) test

-- one that is above n is found
pub reached : {X : Type 0} (weight : X → ℕ) (xs : List X) (n i : ℕ) → i < length xs → n < sum (take (i + 1) (map weight xs))
    → place_from weight xs n i ≡ Some i
reached weight xs n i less above =
    let is_above : ℕ → Bool = λ place. nat_lt n (sum (take (place + 1) (map weight xs))) in
    let test : nat_lt n (sum (take (i + 1) (map weight xs))) ≡ true = grind (arith, common_steps) in
    ap (find is_above) (range_step i (length (map weight xs)) (omega (arith, length-map xs weight)))
    ∙ find_yes is_above i (range_with_len (i + 1) (length (map weight xs) - (i + 1))) test

-- none is left at the end
pub none_left : {X : Type 0} (weight : X → ℕ) (xs : List X) (n i : ℕ) → length xs ≤ i → place_from weight xs n i ≡ None
none_left weight xs n i all =
    let nothing : length (map weight xs) - i ≡ 0 = omega (arith, length-map xs weight) in
    ap (λ k. find (λ place. nat_lt n (sum (take (place + 1) (map weight xs)))) (range_with_len i k)) nothing
