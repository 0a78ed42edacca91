-- Places in order, and what is at them.
use Rattle.std.proofs.Common.{◌≡◌, ℕ, suc, ◌+◌, ◌-◌, ◌<◌, ◌≤◌, ◌⊎◌, inl, inr, Bool, true, false, cond, ◌&&◌, ◌||◌, nat_eq, nat_cmp, is_eq, Less, List, [], ◌∷◌, ◌++◌, map, filter, flat_map, Option, Some, None, refl, sym, ap, ◌∙◌, subst, arith}
use Rattle.std.specs.Prelude.{slice_get}
use Rattle.std.specs.List.{AllByRecursion, enumerate_from}
use Rattle.std.specs.List.Sorted.{IsStrictlySortedBy}
use Rattle.std.specs.BTreeSet.{BTreeSet, contains, IsOrdered}
use Rattle.std.proofs.lemmas.Bool.{cases_lt}
use Rattle.ev_expand.specs.Guarding.{Guarded}
use Rattle.ev_expand.specs.Following.{DueParts}
use Rattle.ev_dns.specs.declared.answers.Answers.{Answers}
use Rattle.ev_dns.specs.Known.{due_parts, due_there, due_each, due_among}
use Rattle.ev_dns.specs.Marking.{is_listed}
use Rattle.ev_dns.proofs.PairLemmas.{any_same}

-- ---- places of a set

pub is_at_place : (n k : ℕ) → is_eq (nat_cmp n k) ≡ nat_eq k n
is_at_place n k = grind arith

pub listed_as : (set : BTreeSet ℕ) (n : ℕ) → is_listed set.keys n ≡ contains nat_cmp set n
listed_as set n = any_same (λ k. nat_eq k n) (λ k. is_eq (nat_cmp n k)) set.keys (λ k. sym (is_at_place n k))

-- these ascend, from at least this one on
abbrev pub Ascend : ℕ → List ℕ → Type 0
Ascend m [] = Unit {0}
Ascend m (k ∷ ks) = (m ≤ k) × Ascend (k + 1) ks

above : (k n : ℕ) → nat_cmp k n ≡ Less → k + 1 ≤ n
above k n h = grind arith

all_above : (k : ℕ) (ks : List ℕ) → AllByRecursion (λ n. nat_cmp k n ≡ Less) ks → AllByRecursion (λ n. k + 1 ≤ n) ks
all_above k [] h = tt
all_above k (n ∷ ks) h = (above k n h.0, all_above k ks h.1)

ascend_by : (m : ℕ) (ks : List ℕ) → AllByRecursion (λ n. m ≤ n) ks → IsStrictlySortedBy nat_cmp ks → Ascend m ks
unfolding IsStrictlySortedBy
ascend_by m [] h sorted = tt
ascend_by m (k ∷ ks) h sorted = (h.0, ascend_by (k + 1) ks (all_above k ks sorted.0) sorted.1)

from_zero : (ks : List ℕ) → AllByRecursion (λ n. 0 ≤ n) ks
from_zero [] = tt
from_zero (k ∷ ks) = (omega arith, from_zero ks)

pub ascending : (ks : List ℕ) → IsStrictlySortedBy nat_cmp ks → Ascend 0 ks
ascending ks sorted = ascend_by 0 ks (from_zero ks) sorted

further : (m n : ℕ) (ks : List ℕ) → n ≤ m → Ascend m ks → Ascend n ks
further m n [] h up = tt
further m n (k ∷ ks) h up = (omega (arith, up.0), up.1)

apart : (n k : ℕ) → n < k → nat_eq k n ≡ false
apart n k h = grind arith

other_than : (k n : ℕ) → k < n → nat_eq k n ≡ false
other_than k n h = grind arith

same_place : (k n : ℕ) → k ≡ n → nat_eq k n ≡ true
same_place k n h = grind arith

none_listed : (m n : ℕ) (ks : List ℕ) → n < m → Ascend m ks → is_listed ks n ≡ false
none_listed m n [] h up = refl
none_listed m n (k ∷ ks) h up = rw (apart n k (omega (arith, up.0))) (none_listed (k + 1) n ks (omega (arith, up.0)) up.1)

-- ---- what is due at places in order

module _ (answers : Answers) (is_sent : ℕ → Bool) where
  abbrev parts : ℕ × Guarded → DueParts
  parts p = due_parts answers p.0 p.1.key

  nothing_there : (m : ℕ) (ks : List ℕ) (at : ℕ → Option Guarded) → Ascend m ks → ((i : ℕ) → at (m + i) ≡ None) → flat_map (λ k. due_there answers (is_sent k) k (at k)) ks ≡ []
  nothing_there m [] at up k = refl
  nothing_there m (n ∷ ks) at up k =
      let here : at n ≡ None = (let e : m + (n - m) ≡ n = omega (arith, up.0) in subst (λ (j : ℕ). at j ≡ None) e (k (n - m))) in
      rw here (nothing_there m ks at (further (n + 1) m ks (omega (arith, up.0)) up.1) k)

  given_front : (c : Bool) (x : ℕ × Guarded) (xs : List (ℕ × Guarded)) → cond c (parts x ∷ []) [] ++ map parts xs ≡ map parts (cond c (x ∷ xs) xs)
  given_front true x xs = refl
  given_front false x xs = refl

  module _ (has : ℕ → Bool) (at : ℕ → Option Guarded) where
    abbrev passes : ℕ × Guarded → Bool
    passes p = has p.0 && is_sent p.0

    abbrev there : ℕ → List DueParts
    there k = due_there answers (is_sent k) k (at k)

    abbrev Follows : ℕ → List (ℕ × Guarded) → List ℕ → Type 0
    Follows m xs ks = Ascend m ks → ((i : ℕ) → has (m + i) ≡ is_listed ks (m + i)) → flat_map there ks ≡ map parts (filter passes xs)

    skipped : (m : ℕ) (g : Guarded) (xs : List (ℕ × Guarded)) (ks : List ℕ) → has m ≡ false → flat_map there ks ≡ map parts (filter passes xs) → flat_map there ks ≡ map parts (filter passes ((m, g) ∷ xs))
    skipped m g xs ks fails rest = rest ∙ ap (λ (b : Bool). map parts (cond (b && is_sent m) ((m, g) ∷ filter passes xs) (filter passes xs))) (sym fails)

    taken : (m k : ℕ) (g : Guarded) (xs : List (ℕ × Guarded)) (ks : List ℕ) → k ≡ m → at m ≡ Some g → has m ≡ true → flat_map there ks ≡ map parts (filter passes xs)
        → flat_map there (k ∷ ks) ≡ map parts (filter passes ((m, g) ∷ xs))
    taken m k g xs ks e stands holds rest =
        let first : there k ≡ cond (is_sent m) (due_parts answers m g.key ∷ []) [] = ap there e ∙ ap (due_there answers (is_sent m) m) stands in
        (λ i. first i ++ rest i) ∙ given_front (is_sent m) (m, g) (filter passes xs)
        ∙ ap (λ (b : Bool). map parts (cond (b && is_sent m) ((m, g) ∷ filter passes xs) (filter passes xs))) (sym holds)

    later_listed : (m k : ℕ) (ks : List ℕ) → k ≤ m → ((i : ℕ) → has (m + i) ≡ is_listed (k ∷ ks) (m + i)) → (i : ℕ) → has (m + 1 + i) ≡ is_listed ks (m + 1 + i)
    later_listed m k ks le h i =
        let e : m + (1 + i) ≡ m + 1 + i = omega arith in
        subst (λ (j : ℕ). has j ≡ is_listed (k ∷ ks) j) e (h (1 + i)) ∙ ap (λ (b : Bool). b || is_listed ks (m + 1 + i)) (other_than k (m + 1 + i) (omega (arith, le)))

    first_listed : (m k : ℕ) (ks : List ℕ) → k ≡ m → ((i : ℕ) → has (m + i) ≡ is_listed (k ∷ ks) (m + i)) → has m ≡ true
    first_listed m k ks e h =
        let zero_more : m + 0 ≡ m = omega arith in
        subst (λ (j : ℕ). has j ≡ is_listed (k ∷ ks) j) zero_more (h 0) ∙ ap (λ (b : Bool). b || is_listed ks m) (same_place k m e)

    none_first : (m : ℕ) (ks : List ℕ) → Ascend (m + 1) ks → ((i : ℕ) → has (m + i) ≡ is_listed ks (m + i)) → has m ≡ false
    none_first m ks up h =
        let zero_more : m + 0 ≡ m = omega arith in
        subst (λ (j : ℕ). has j ≡ is_listed ks j) zero_more (h 0) ∙ none_listed (m + 1) m ks (omega arith) up

    next_same : (m : ℕ) (ks : List ℕ) → ((i : ℕ) → has (m + i) ≡ is_listed ks (m + i)) → (i : ℕ) → has (m + 1 + i) ≡ is_listed ks (m + 1 + i)
    next_same m ks h i = let e : m + (1 + i) ≡ m + 1 + i = omega arith in subst (λ (j : ℕ). has j ≡ is_listed ks j) e (h (1 + i))

    one_more : (m : ℕ) (g : Guarded) (xs : List (ℕ × Guarded)) (ks : List ℕ) → at m ≡ Some g → ((more : List ℕ) → Follows (m + 1) xs more) → Follows m ((m, g) ∷ xs) ks
    one_more m g xs [] stands rest = λ up h. skipped m g xs [] (none_first m [] tt h) (rest [] tt (next_same m [] h))
    one_more m g xs (k ∷ ks) stands rest = by (cases_lt m k)
      where
        by : (m < k) ⊎ (k ≤ m) → Follows m ((m, g) ∷ xs) (k ∷ ks)
        by (inl below) = λ up h.
            let higher : Ascend (m + 1) (k ∷ ks) = (omega (arith, below), up.1) in
            skipped m g xs (k ∷ ks) (none_first m (k ∷ ks) higher h) (rest (k ∷ ks) higher (next_same m (k ∷ ks) h))
        by (inr le) = λ up h.
            let e : k ≡ m = omega (arith, le, up.0) in
            taken m k g xs ks e stands (first_listed m k ks e h)
            (rest ks (subst (λ (j : ℕ). Ascend (j + 1) ks) e up.1) (later_listed m k ks le h))

  picked : (m : ℕ) (gs : List Guarded) (ks : List ℕ) (has : ℕ → Bool) (at : ℕ → Option Guarded) → ((i : ℕ) → at (m + i) ≡ slice_get gs i) → Follows has at m (enumerate_from m gs) ks
  picked m [] ks has at k = λ up h. nothing_there m ks at up k
  picked m (g ∷ gs) ks has at k =
      let zero_more : m + 0 ≡ m = omega arith in
      one_more has at m g (enumerate_from (m + 1) gs) ks (subst (λ (j : ℕ). at j ≡ Some g) zero_more (k 0))
      (λ more. picked (m + 1) gs more has at (λ i. let e : m + suc i ≡ m + 1 + i = omega arith in subst (λ (j : ℕ). at j ≡ slice_get gs i) e (k (suc i))))

  -- what is due of a set's places, one after another, is what is due of those that it has, in order
  pub each_among : (gs : List Guarded) (set : BTreeSet ℕ) → IsOrdered nat_cmp set → due_each answers gs is_sent set.keys ≡ due_among answers gs (λ (n : ℕ). contains nat_cmp set n && is_sent n)
  each_among gs set ordered =
      let zero_first : (i : ℕ) → 0 + i ≡ i = λ i. omega arith in
      picked 0 gs set.keys (contains nat_cmp set) (slice_get gs) (λ i. ap (slice_get gs) (zero_first i)) (ascending set.keys ordered) (λ i. sym (listed_as set (0 + i)))
