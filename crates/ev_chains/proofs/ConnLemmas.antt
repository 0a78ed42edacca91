-- Numbers as the keys of a set.
use Rattle.std.proofs.Common.{◌≡◌, ℕ, ◌+◌, Bool, true, false, ◌==◌, ◌&&◌, ◌||◌, cond, nat_le, List, [], ◌∷◌, filter, refl, sym, ap, ◌∙◌, arith}
use Rattle.std.specs.List.{list_any, sum_by, AllByRecursion}
use Rattle.std.specs.List.Sorted.{IsStrictlySortedBy}
use Rattle.std.specs.BTreeSet.{BTreeSet, contains}
use Rattle.std.specs.Ordering.{nat_cmp, is_eq}
use Rattle.std.specs.declared.cmp.Ordering.TheVariants.{Less}
use Rattle.std.proofs.lemmas.Bool.{or_parts}
use Rattle.std.proofs.lemmas.Bool.Decides.{nat_tests}
use Rattle.std.proofs.lemmas.List.Sums.{sum_by-cons}
use Rattle.ev_model.specs.Picture.{has_number}
use Rattle.ev_model.specs.Publishing.{ascending}
use Rattle.ev_ledger.proofs.OrderLemmas.{Rises, sum_sorted, sorted_rises}
use Rattle.ev_chains.specs.Kept.{Apart}
use Rattle.ev_chains.proofs.KeyLemmas.{any_same}
use Rattle.ev_chains.proofs.ListLemmas.{counts, nat_order, same_counts}

-- ---- tests of lists

pub any_left : {X : Type 0} (p q : X → Bool) (xs : List X) → list_any p (filter q xs) ≡ list_any (λ x. q x && p x) xs
any_left p q [] = refl
any_left p q (x ∷ xs) = by (q x) (any_left p q xs)
  where
    by : (t : Bool) → list_any p (filter q xs) ≡ list_any (λ y. q y && p y) xs
        → list_any p (cond t (x ∷ filter q xs) (filter q xs)) ≡ ((t && p x) || list_any (λ y. q y && p y) xs)
    by true rest = ap (λ b. p x || b) rest
    by false rest = rest

pub any_first : {X : Type 0} (b : Bool) (p : X → Bool) (xs : List X) → list_any (λ x. b && p x) xs ≡ (b && list_any p xs)
any_first true p xs = refl
any_first false p [] = refl
any_first false p (x ∷ xs) = any_first false p xs

pub turned : (a b : ℕ) → (a == b) ≡ (b == a)
turned a b = grind (arith, nat_tests)

-- ---- numbers that are apart

pub own : (n : ℕ) → (n == n) ≡ true
own n = grind (arith, nat_tests)

pub same : (a b : ℕ) → (a == b) ≡ true → a ≡ b
same a b h = grind (arith, nat_tests)

abbrev pub one_if : Bool → ℕ
one_if b = cond b 1 0

count_none : (n : ℕ) (xs : List ℕ) → has_number n xs ≡ false → sum_by (counts n) xs ≡ 0
count_none n [] none = refl
count_none n (x ∷ xs) none =
    let parts = or_parts (x == n) (has_number n xs) none in
    let first = sum_by-cons (counts n) x xs in
    let here : counts n x ≡ 0 = ap one_if parts.0 in
    let rest = count_none n xs parts.1 in
    omega (arith, first, here, rest)

pub count_apart : (n : ℕ) (xs : List ℕ) → Apart xs → sum_by (counts n) xs ≡ one_if (has_number n xs)
count_apart n [] apart = refl
count_apart n (x ∷ xs) apart = sum_by-cons (counts n) x xs ∙ by (x == n) refl (count_apart n xs apart.1)
  where
    by : (t : Bool) → (x == n) ≡ t → sum_by (counts n) xs ≡ one_if (has_number n xs) → counts n x + sum_by (counts n) xs ≡ one_if (t || has_number n xs)
    by true h rest =
        let here : counts n x ≡ 1 = ap one_if h in
        let none : sum_by (counts n) xs ≡ 0 = count_none n xs (ap (λ k. has_number k xs) (sym (same x n h)) ∙ apart.0) in
        omega (arith, here, none)
    by false h rest =
        let here : counts n x ≡ 0 = ap one_if h in
        let total : counts n x + sum_by (counts n) xs ≡ sum_by (counts n) xs = omega (arith, here) in
        total ∙ rest

-- ---- the keys of a set

less_none : (x : ℕ) (ys : List ℕ) → AllByRecursion (λ y. nat_cmp x y ≡ Less) ys → has_number x ys ≡ false
less_none x [] all = refl
less_none x (y ∷ ys) all = let here : (y == x) ≡ false = apart x y all.0 in ap (λ b. b || has_number x ys) here ∙ less_none x ys all.1
  where
    apart : (a b : ℕ) → nat_cmp a b ≡ Less → (b == a) ≡ false
    apart a b h = grind (arith, nat_tests)

less_rise : (x : ℕ) (ys : List ℕ) → AllByRecursion (λ y. nat_cmp x y ≡ Less) ys → AllByRecursion (λ y. nat_le x y ≡ true) ys
less_rise x [] all = tt
less_rise x (y ∷ ys) all = (up x y all.0, less_rise x ys all.1)
  where
    up : (a b : ℕ) → nat_cmp a b ≡ Less → nat_le a b ≡ true
    up a b h = grind (arith, nat_tests)

keys_apart : (keys : List ℕ) → IsStrictlySortedBy nat_cmp keys → Apart keys
unfolding IsStrictlySortedBy
keys_apart [] sorted = tt
keys_apart (x ∷ keys) sorted = (less_none x keys sorted.0, keys_apart keys sorted.1)

keys_rise : (keys : List ℕ) → IsStrictlySortedBy nat_cmp keys → Rises nat_le keys
unfolding IsStrictlySortedBy
keys_rise [] sorted = tt
keys_rise (x ∷ keys) sorted = (less_rise x keys sorted.0, keys_rise keys sorted.1)

equal_at : (c k : ℕ) → is_eq (nat_cmp c k) ≡ (k == c)
equal_at c k = grind (arith, nat_tests)

pub keys_have : (set : BTreeSet ℕ) (n : ℕ) → contains nat_cmp set n ≡ has_number n set.keys
keys_have set n = any_same (λ k. is_eq (nat_cmp n k)) (λ k. k == n) (λ k. equal_at n k) set.keys

-- the keys are numbers that are apart, in order
pub keys_ascending : (set : BTreeSet ℕ) (xs : List ℕ) → IsStrictlySortedBy nat_cmp set.keys → Apart xs → ((n : ℕ) → contains nat_cmp set n ≡ has_number n xs) → set.keys ≡ ascending xs
keys_ascending set xs sorted apart has =
    same_counts set.keys (ascending xs) (keys_rise set.keys sorted) (sorted_rises nat_le nat_order xs)
    (λ n. count_apart n set.keys (keys_apart set.keys sorted) ∙ ap one_if (sym (keys_have set n) ∙ has n) ∙ sym (count_apart n xs apart) ∙ sym (sum_sorted nat_le (counts n) xs))
