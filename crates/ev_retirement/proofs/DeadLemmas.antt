-- The dead among those that are asked about are all that are dead.
use Rattle.std.proofs.Common.{◌≡◌, ℕ, ◌<◌, Bool, true, false, ◌&&◌, ◌||◌, ◌==◌, cond, List, [], ◌∷◌, filter, map, refl, sym, ap, ◌∙◌, arith}
use Rattle.std.specs.List.{list_any, AllByRecursion}
use Rattle.std.specs.List.Sorted.{IsStrictlySortedBy}
use Rattle.std.specs.Ordering.{is_eq, nat_cmp}
use Rattle.std.specs.declared.cmp.Ordering.TheVariants.{Less}
use Rattle.std.specs.BTreeMap.{is_at}
use Rattle.std.specs.BTreeSet.{BTreeSet, contains, IsOrdered}
use Rattle.std.proofs.lemmas.Bool.{false≢true}
use Rattle.std.proofs.lemmas.Bool.Decides.{nat_tests}
use Rattle.std.proofs.lemmas.Cmp.{nat_cmp_total}
use Rattle.std.proofs.lemmas.List.Kept.{IsStrictlySortedBy-filter}
use Rattle.std.proofs.lemmas.Map.Lookups.{btree_set_from_contains, exact_unsigned}
use Rattle.std.proofs.lemmas.Map.Views.{any-filter_same}
use Rattle.ev_drain.specs.Retired.{Retired, is_numbered}
use Rattle.ev_retirement.specs.Retiring.{AreInOrder}
use Rattle.ev_retirement.proofs.MoreLemmas.{same_number}

abbrev set_of : List ℕ → BTreeSet ℕ
set_of numbers = record { keys = numbers }

same_test : (number other : ℕ) → is_eq (nat_cmp number other) ≡ (other == number)
same_test number other = grind (arith, nat_tests)

is_less : (m n : ℕ) → m < n → nat_cmp m n ≡ Less
is_less m n h = grind arith

-- the numbers of rows in order ascend
all_less : (row : Retired) (dead : Retired → Bool) (drain : List Retired) → AllByRecursion (λ (other : Retired). row.number < other.number) drain
    → AllByRecursion (λ n. nat_cmp row.number n ≡ Less) (map (λ (other : Retired). other.number) (filter dead drain))
all_less row dead [] all = tt
all_less row dead (other ∷ drain) all = by (dead other) (all_less row dead drain all.1)
  where
    by : (t : Bool) → AllByRecursion (λ n. nat_cmp row.number n ≡ Less) (map (λ (r : Retired). r.number) (filter dead drain))
        → AllByRecursion (λ n. nat_cmp row.number n ≡ Less) (map (λ (r : Retired). r.number) (cond t (other ∷ filter dead drain) (filter dead drain)))
    by true rest = (is_less row.number other.number all.0, rest)
    by false rest = rest

dead_ascend : (dead : Retired → Bool) (drain : List Retired) → AreInOrder drain → IsStrictlySortedBy nat_cmp (map (λ (row : Retired). row.number) (filter dead drain))
unfolding IsStrictlySortedBy
dead_ascend dead [] up = tt
dead_ascend dead (row ∷ drain) up = by (dead row) (dead_ascend dead drain up.1)
  where
    by : (t : Bool) → IsStrictlySortedBy nat_cmp (map (λ (r : Retired). r.number) (filter dead drain))
        → IsStrictlySortedBy nat_cmp (map (λ (r : Retired). r.number) (cond t (row ∷ filter dead drain) (filter dead drain)))
    by true rest = (all_less row dead drain up.0, rest)
    by false rest = rest

module _ (dead : Retired → Bool) where
  abbrev is_dead : List Retired → ℕ → Bool
  is_dead drain number = list_any (λ row. is_numbered number row && dead row) drain

  -- the number of a dead row is among those of the dead rows
  among_dead : (number : ℕ) (drain : List Retired) → is_dead drain number ≡ list_any (is_at (nat_cmp number)) (map (λ (row : Retired). row.number) (filter dead drain))
  among_dead number [] = refl
  among_dead number (row ∷ drain) = by (dead row) (among_dead number drain)
    where
      and_none : (a : Bool) → (a && false) ≡ false
      and_none true = refl
      and_none false = refl

      and_own : (a : Bool) → (a && true) ≡ a
      and_own true = refl
      and_own false = refl

      by : (t : Bool) → is_dead drain number ≡ list_any (is_at (nat_cmp number)) (map (λ (r : Retired). r.number) (filter dead drain))
          → ((is_numbered number row && t) || is_dead drain number)
          ≡ list_any (is_at (nat_cmp number)) (map (λ (r : Retired). r.number) (cond t (row ∷ filter dead drain) (filter dead drain)))
      by true rest =
          ap (λ b. b || is_dead drain number) (and_own (is_numbered number row) ∙ sym (same_test number row.number))
          ∙ ap (λ b. is_at (nat_cmp number) row.number || b) rest
      by false rest = ap (λ b. b || is_dead drain number) (and_none (is_numbered number row)) ∙ rest

  -- a dead one is asked about
  dead_asked : (asked : BTreeSet ℕ) (number : ℕ) (drain : List Retired) → AllByRecursion (λ (row : Retired). dead row ≡ true → contains nat_cmp asked row.number ≡ true) drain
      → is_dead drain number ≡ true → contains nat_cmp asked number ≡ true
  dead_asked asked number [] all h = absurd (false≢true h)
  dead_asked asked number (row ∷ drain) all h = by (is_numbered number row) refl (dead row) refl h (dead_asked asked number drain all.1)
    where
      by : (a : Bool) → is_numbered number row ≡ a → (b : Bool) → dead row ≡ b → ((a && b) || is_dead drain number) ≡ true
          → (is_dead drain number ≡ true → contains nat_cmp asked number ≡ true) → contains nat_cmp asked number ≡ true
      by true at true is h rest = ap (contains nat_cmp asked) (sym (same_number row.number number at)) ∙ all.0 is
      by true at false is h rest = rest h
      by false at b is h rest = rest h

  and_so : (a b : Bool) → (a ≡ true → b ≡ true) → (a && b) ≡ a
  and_so true b so = so refl
  and_so false b so = refl

  pub all_dead : (asked : BTreeSet ℕ) (drain : List Retired) → IsOrdered nat_cmp asked → AreInOrder drain
      → AllByRecursion (λ (row : Retired). dead row ≡ true → contains nat_cmp asked row.number ≡ true) drain
      → filter (is_dead drain) asked.keys ≡ map (λ (row : Retired). row.number) (filter dead drain)
  all_dead asked drain ordered up all =
      btree_set_from_contains nat_cmp_total (set_of (filter (is_dead drain) asked.keys)) (set_of (map (λ (row : Retired). row.number) (filter dead drain)))
      (IsStrictlySortedBy-filter nat_cmp (is_dead drain) asked.keys ordered)
      (dead_ascend dead drain up)
      (λ number.
      any-filter_same (is_at (nat_cmp number)) (is_dead drain) (is_dead drain number)
      (λ k at. ap (is_dead drain) (same_number k number (sym (same_test number k) ∙ at))) asked.keys
      ∙ and_so (is_dead drain number) (contains nat_cmp asked number) (dead_asked asked number drain all)
      ∙ among_dead number drain)
      exact_unsigned
