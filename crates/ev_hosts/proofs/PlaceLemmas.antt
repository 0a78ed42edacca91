-- The search for the first place where a running sum is above a number.
use Rattle.std.proofs.Common.{◌≡◌, ◌∙◌, refl, sym, ap, ℕ, ◌+◌, ◌≤◌, ◌==◌, ◌||◌, Bool, true, false, cond, List, [], ◌∷◌, ◌++◌, length, map, take, sum, find, None, Some, Option, nat_lt, append_assoc, length-append, arith}
use Rattle.std.specs.List.{list_any, range_with_len}
use Rattle.std.proofs.lemmas.Grind.{common_steps}
use Rattle.std.proofs.Math.Seq.{take-append-add}
use Rattle.std.proofs.lemmas.List.Sums.{sum_by_push, sum_by-cons}
use Rattle.ev_types.specs.Hosts.{HostRowParts}
use Rattle.ev_model.specs.Choice.{place_above, weight_at}

-- the first place where a sum so far, and the weights up to it, and its own, are more than n, counted from a place on
abbrev pub above : ℕ → ℕ → ℕ → List ℕ → Option ℕ
above n so_far place [] = None
above n so_far place (weight ∷ weights) = cond (nat_lt n (so_far + weight)) (Some place) (above n (so_far + weight) (place + 1) weights)

above_after : (n : ℕ) (front weights : List ℕ)
    → find (λ place. nat_lt n (sum (take (place + 1) (front ++ weights)))) (range_with_len (length front) (length weights)) ≡ above n (sum front) (length front) weights
above_after n front [] = refl
above_after n front (weight ∷ weights) =
    λ i. cond (nat_lt n (here i)) (Some (length front)) (later (above_after n (front ++ weight ∷ []) weights) i)
  where
    here : sum (take (length front + 1) (front ++ weight ∷ weights)) ≡ sum front + weight
    here = ap sum (take-append-add front (weight ∷ weights) 1) ∙ sum_by_push (λ (w : ℕ). w) front weight

    all : (front ++ weight ∷ []) ++ weights ≡ front ++ weight ∷ weights
    all = append_assoc front (weight ∷ []) weights

    long : length (front ++ weight ∷ []) ≡ length front + 1
    long = length-append front (weight ∷ [])

    later : find (λ place. nat_lt n (sum (take (place + 1) ((front ++ weight ∷ []) ++ weights)))) (range_with_len (length (front ++ weight ∷ [])) (length weights))
        ≡ above n (sum (front ++ weight ∷ [])) (length (front ++ weight ∷ [])) weights
        → find (λ place. nat_lt n (sum (take (place + 1) (front ++ weight ∷ weights)))) (range_with_len (length front + 1) (length weights))
        ≡ above n (sum front + weight) (length front + 1) weights
    later rest =
        (λ i. find (λ place. nat_lt n (sum (take (place + 1) (sym all i)))) (range_with_len (sym long i) (length weights)))
        ∙ rest
        ∙ (λ i. above n (sum_by_push (λ (w : ℕ). w) front weight i) (long i) weights)

-- from the start on it is the search of all places
pub above_start : (n : ℕ) (weights : List ℕ) → place_above n weights ≡ above n 0 0 weights
above_start n weights = above_after n [] weights

-- a place that isn't above n is passed
pub above_passed : (n so_far place weight : ℕ) (weights : List ℕ) → so_far + weight ≤ n → above n so_far place (weight ∷ weights) ≡ above n (so_far + weight) (place + 1) weights
above_passed n so_far place weight weights below =
    let test : nat_lt n (so_far + weight) ≡ false = grind (arith, common_steps) in
    ap (λ b. cond b (Some place) (above n (so_far + weight) (place + 1) weights)) test

-- ---- weights of one priority

pub weights_more : (priority : ℕ) (row : HostRowParts) (rows : List HostRowParts)
    → sum (map (weight_at priority) (row ∷ rows)) ≡ weight_at priority row + sum (map (weight_at priority) rows)
weights_more priority row rows = sum_by-cons (λ (w : ℕ). w) (weight_at priority row) (map (weight_at priority) rows)

-- some row of the priority weighs something
pub some_more : (priority : ℕ) (row : HostRowParts) (rows : List HostRowParts) (so_far weight : ℕ)
    → ((row.priority == priority) ≡ true → 1 ≤ weight) → (list_any (λ (r : HostRowParts). r.priority == priority) rows ≡ true → 1 ≤ so_far)
    → list_any (λ (r : HostRowParts). r.priority == priority) (row ∷ rows) ≡ true → 1 ≤ so_far + weight
some_more priority row rows so_far weight here there = by (row.priority == priority) here
  where
    by : (b : Bool) → (b ≡ true → 1 ≤ weight) → (b || list_any (λ (r : HostRowParts). r.priority == priority) rows) ≡ true → 1 ≤ so_far + weight
    by true one any = omega (arith, one refl)
    by false one any = omega (arith, there any)
