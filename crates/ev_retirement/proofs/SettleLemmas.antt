-- Those that a settle looks at and that pass a test are all of a worker that pass it.
use Rattle.std.proofs.Common.{◌≡◌, ℕ, ◌+◌, Bool, true, false, not, ◌&&◌, ◌||◌, ◌==◌, cond, List, [], ◌∷◌, filter, map, find, Option, Some, None, refl, sym, ap, ◌∙◌, arith}
use Rattle.std.specs.List.{list_any, AllByRecursion}
use Rattle.std.specs.List.Sorted.{IsStrictlySortedBy}
use Rattle.std.specs.Option.{option_map, unwrap_or}
use Rattle.std.specs.Ordering.{is_eq, nat_cmp}
use Rattle.std.specs.declared.cmp.Ordering.{Ordering}
use Rattle.std.specs.declared.cmp.Ordering.TheVariants.{Less}
use Rattle.std.specs.BTreeMap.{is_at}
use Rattle.std.specs.BTreeMap.Range.{range_contains}
use Rattle.std.specs.BTreeSet.{BTreeSet, IsOrdered, keys_between}
use Rattle.std.specs.declared.ops.Bound.TheVariants.{Included, Excluded}
use Rattle.std.proofs.lemmas.Bool.{false≢true, or_parts}
use Rattle.std.proofs.lemmas.Bool.Decides.{nat_tests}
use Rattle.std.proofs.lemmas.Cmp.{nat_cmp_total}
use Rattle.std.proofs.lemmas.List.Kept.{IsStrictlySortedBy-filter}
use Rattle.std.proofs.lemmas.Map.Lookups.{btree_set_from_contains, exact_unsigned}
use Rattle.std.proofs.lemmas.Map.Views.{any-filter_same}
use Rattle.ev_model.specs.World.{OpenMember}
use Rattle.ev_model.specs.Connections.{is_chain_shown, is_member}
use Rattle.ev_model.specs.declared.pictures.Shown.{Shown}
use Rattle.ev_ledger.specs.Entries.{key_order}
use Rattle.ev_ledger.specs.Members.{AreApart, AreInOrder, is_of_worker, member_on, on_of, place_order}
use Rattle.ev_ledger.proofs.IndexLemmas.{found_any}
use Rattle.ev_ledger.proofs.PlaceLemmas.{same_place}
use Rattle.ev_drain.specs.Retired.{Retired, is_expired}
use Rattle.ev_retirement.specs.declared.closing.Closing.{Closing}
use Rattle.ev_retirement.specs.Closing.{AreFound, closes, is_due, is_found, is_passed, is_place_of, moves, number_of, numbers_found, numbers_where, passes_at}
use Rattle.ev_retirement.proofs.AskLemmas.{all_so}
use Rattle.ev_retirement.proofs.MoreLemmas.{or_first, or_second, same_number}

-- the places from a worker's first on and before the next worker's are the worker's
range_is : (w : ℕ) (k : ℕ × ℕ) → range_contains key_order (Included (w, 0)) (Excluded (w + 1, 0)) k ≡ (k.0 == w)
range_is w k = grind (arith, nat_tests)

pub range_of_worker : (w : ℕ) (places : BTreeSet (ℕ × ℕ)) → keys_between key_order (Included (w, 0)) (Excluded (w + 1, 0)) places ≡ filter (is_place_of w) places.keys
range_of_worker w places = λ i. filter (λ k. range_is w k i) places.keys

-- numbers of some elements of an ordered list, which ascend where these do
module _ {X : Type 0} (R : X → X → Ordering) (p : X → Bool) (f : X → ℕ) (up : (x y : X) → p x ≡ true → p y ≡ true → R x y ≡ Less → nat_cmp (f x) (f y) ≡ Less) where
  above : (x : X) → p x ≡ true → (ys : List X) → AllByRecursion (λ y. R x y ≡ Less) ys → AllByRecursion (λ n. nat_cmp (f x) n ≡ Less) (map f (filter p ys))
  above x here [] all = tt
  above x here (y ∷ ys) all = by (p y) refl (above x here ys all.1)
    where
      by : (t : Bool) → p y ≡ t → AllByRecursion (λ n. nat_cmp (f x) n ≡ Less) (map f (filter p ys))
          → AllByRecursion (λ n. nat_cmp (f x) n ≡ Less) (map f (cond t (y ∷ filter p ys) (filter p ys)))
      by true at rest = (up x y here at all.0, rest)
      by false at rest = rest

  ascend : (xs : List X) → IsStrictlySortedBy R xs → IsStrictlySortedBy nat_cmp (map f (filter p xs))
  unfolding IsStrictlySortedBy
  ascend [] sorted = tt
  ascend (x ∷ xs) sorted = by (p x) refl (ascend xs sorted.1)
    where
      by : (t : Bool) → p x ≡ t → IsStrictlySortedBy nat_cmp (map f (filter p xs)) → IsStrictlySortedBy nat_cmp (map f (cond t (x ∷ filter p xs) (filter p xs)))
      by true at rest = (above x at xs sorted.0, rest)
      by false at rest = rest

abbrev set_of : List ℕ → BTreeSet ℕ
set_of numbers = record { keys = numbers }

same_test : (number other : ℕ) → is_eq (nat_cmp number other) ≡ (other == number)
same_test number other = grind (arith, nat_tests)

place_up : (w a b x y : ℕ) → (a == w) ≡ true → (b == w) ≡ true → key_order (a, x) (b, y) ≡ Less → nat_cmp x y ≡ Less
place_up w a b x y first second less = grind (arith, nat_tests)

and_first : (a b : Bool) → (a && b) ≡ true → a ≡ true
and_first true b h = refl
and_first false b h = h

and_so : (a b : Bool) → (a ≡ true → b ≡ true) → (a && b) ≡ a
and_so true b so = so refl
and_so false b so = refl

module _ (worker : ℕ) (test : OpenMember → Bool) (only : (m : OpenMember) → test (member_on 0 0 (on_of m)) ≡ test m) where
  abbrev leaves : OpenMember → Bool
  leaves m = is_of_worker worker m && test m

  abbrev leaves_at : ℕ → OpenMember → Bool
  leaves_at n m = is_member worker n m && test m

  -- a number is among them
  among : (n : ℕ) (ms : List OpenMember) → list_any (is_at (nat_cmp n)) (map (λ (m : OpenMember). m.connection) (filter leaves ms)) ≡ list_any (leaves_at n) ms
  among n [] = refl
  among n (m ∷ ms) = by (is_of_worker worker m) (test m) (among n ms)
    where
      and_none : (a : Bool) → (a && false) ≡ false
      and_none true = refl
      and_none false = refl

      and_own : (a : Bool) → (a && true) ≡ a
      and_own true = refl
      and_own false = refl

      by : (a b : Bool) → list_any (is_at (nat_cmp n)) (map (λ (x : OpenMember). x.connection) (filter leaves ms)) ≡ list_any (leaves_at n) ms
          → list_any (is_at (nat_cmp n)) (map (λ (x : OpenMember). x.connection) (cond (a && b) (m ∷ filter leaves ms) (filter leaves ms)))
          ≡ (((a && (m.connection == n)) && b) || list_any (leaves_at n) ms)
      by true true rest =
          ap (λ b. b || list_any (is_at (nat_cmp n)) (map (λ (x : OpenMember). x.connection) (filter leaves ms))) (same_test n m.connection ∙ sym (and_own (m.connection == n)))
          ∙ ap (λ b. ((m.connection == n) && true) || b) rest
      by true false rest = rest ∙ sym (ap (λ b. b || list_any (leaves_at n) ms) (and_none (m.connection == n)))
      by false b rest = rest

  -- and passes where the ledger is asked
  at_one : (n : ℕ) (ms : List OpenMember) → AreApart ms → passes_at test worker ms n ≡ list_any (leaves_at n) ms
  at_one n ms apart = by (find (is_member worker n) ms) ∙ found_any test worker n ms apart
    where
      by : (found : Option OpenMember) → is_passed test (option_map on_of found) ≡ unwrap_or (option_map test found) false
      by None = refl
      by (Some m) = only m

  -- one that passes is looked at
  member_numbers : (m : OpenMember) (n : ℕ) → is_member worker n m ≡ true → (m.worker ≡ worker) × (m.connection ≡ n)
  member_numbers m n at = by (m.worker == worker) (m.connection == n) refl refl at
    where
      by : (a b : Bool) → (m.worker == worker) ≡ a → (m.connection == n) ≡ b → (a && b) ≡ true → (m.worker ≡ worker) × (m.connection ≡ n)
      by true b one two h = (same_number m.worker worker one, same_number m.connection n (two ∙ h))
      by false b one two h = absurd (false≢true h)

  looked_at : (closing : Closing) (n : ℕ) (ms : List OpenMember) → AllByRecursion (λ (m : OpenMember). test m ≡ true → is_found closing m.worker m.connection ≡ true) ms
      → list_any (leaves_at n) ms ≡ true → is_found closing worker n ≡ true
  looked_at closing n [] found h = absurd (false≢true h)
  looked_at closing n (m ∷ ms) found h = by (is_member worker n m) refl (test m) refl h (looked_at closing n ms found.1)
    where
      by : (a : Bool) → is_member worker n m ≡ a → (b : Bool) → test m ≡ b → ((a && b) || list_any (leaves_at n) ms) ≡ true
          → (list_any (leaves_at n) ms ≡ true → is_found closing worker n ≡ true) → is_found closing worker n ≡ true
      by true at true is h rest =
          let same = member_numbers m n at in
          ap (λ w. is_found closing w n) (sym same.0) ∙ ap (is_found closing m.worker) (sym same.1) ∙ found.0 is
      by true at false is h rest = rest h
      by false at b is h rest = rest h

  in_numbers : (n : ℕ) (places : List (ℕ × ℕ)) → list_any (is_at (key_order (worker, n))) places ≡ list_any (is_at (nat_cmp n)) (map number_of (filter (is_place_of worker) places))
  in_numbers n [] = refl
  in_numbers n (place ∷ places) =
      ap (λ b. b || list_any (is_at (key_order (worker, n))) places) (same_place worker n place.0 place.1) ∙ by (is_place_of worker place) (in_numbers n places)
    where
      by : (a : Bool) → list_any (is_at (key_order (worker, n))) places ≡ list_any (is_at (nat_cmp n)) (map number_of (filter (is_place_of worker) places))
          → ((a && (place.1 == n)) || list_any (is_at (key_order (worker, n))) places)
          ≡ list_any (is_at (nat_cmp n)) (map number_of (cond a (place ∷ filter (is_place_of worker) places) (filter (is_place_of worker) places)))
      by true rest = ap (λ b. b || list_any (is_at (key_order (worker, n))) places) (sym (same_test n place.1)) ∙ ap (λ b. is_at (nat_cmp n) place.1 || b) rest
      by false rest = rest

  pub all_passing : (closing : Closing) (ledger : List OpenMember) → IsOrdered key_order closing.places → AreInOrder ledger → AreApart ledger
      → AllByRecursion (λ (m : OpenMember). test m ≡ true → is_found closing m.worker m.connection ≡ true) ledger
      → filter (passes_at test worker ledger) (numbers_found worker closing) ≡ numbers_where test worker ledger
  all_passing closing ledger ordered up apart found =
      btree_set_from_contains nat_cmp_total (set_of (filter (passes_at test worker ledger) (numbers_found worker closing)))
      (set_of (map (λ (m : OpenMember). m.connection) (filter leaves ledger)))
      (IsStrictlySortedBy-filter nat_cmp (passes_at test worker ledger) (numbers_found worker closing)
      (ascend key_order (is_place_of worker) number_of (λ x y first second less. place_up worker x.0 y.0 x.1 y.1 first second less) closing.places.keys ordered))
      (ascend place_order leaves (λ (m : OpenMember). m.connection)
      (λ x y first second less.
      place_up worker x.worker y.worker x.connection y.connection
      (and_first (is_of_worker worker x) (test x) first) (and_first (is_of_worker worker y) (test y) second) less) ledger up)
      (λ n.
      any-filter_same (is_at (nat_cmp n)) (passes_at test worker ledger) (passes_at test worker ledger n)
      (λ k at. ap (passes_at test worker ledger) (same_number k n (sym (same_test n k) ∙ at))) (numbers_found worker closing)
      ∙ and_so (passes_at test worker ledger n) (list_any (is_at (nat_cmp n)) (numbers_found worker closing))
      (λ h. sym (in_numbers n closing.places.keys) ∙ looked_at closing n ledger found (sym (at_one n ledger apart) ∙ h))
      ∙ at_one n ledger apart ∙ sym (among n ledger))
      exact_unsigned

-- what closes or moves is due
pub closes_due : (drain : List Retired) (shown : Shown) (m : OpenMember) → closes drain shown m ≡ true → is_due drain shown m ≡ true
closes_due drain shown m h = or_first (is_expired drain m.listener) (moves shown m) (and_first (is_expired drain m.listener) (not (is_chain_shown m.origin shown)) h)

pub closing_found : (closing : Closing) (drain : List Retired) (shown : Shown) (ledger : List OpenMember) → AreFound closing drain shown ledger
    → AllByRecursion (λ (m : OpenMember). closes drain shown m ≡ true → is_found closing m.worker m.connection ≡ true) ledger
closing_found closing drain shown ledger found =
    all_so (λ (m : OpenMember). is_due drain shown m ≡ true → is_found closing m.worker m.connection ≡ true)
    (λ (m : OpenMember). closes drain shown m ≡ true → is_found closing m.worker m.connection ≡ true) (λ m was h. was (closes_due drain shown m h)) ledger found

pub moving_found : (closing : Closing) (drain : List Retired) (shown : Shown) (ledger : List OpenMember) → AreFound closing drain shown ledger
    → AllByRecursion (λ (m : OpenMember). moves shown m ≡ true → is_found closing m.worker m.connection ≡ true) ledger
moving_found closing drain shown ledger found =
    all_so (λ (m : OpenMember). is_due drain shown m ≡ true → is_found closing m.worker m.connection ≡ true)
    (λ (m : OpenMember). moves shown m ≡ true → is_found closing m.worker m.connection ≡ true)
    (λ m was h. was (or_second (is_expired drain m.listener) (moves shown m) h)) ledger found

-- a connection that the ledger says isn't due is none that is
pub not_due : (worker connection : ℕ) (drain : List Retired) (shown : Shown) (ms : List OpenMember) → AreApart ms
    → passes_at (is_due drain shown) worker ms connection ≡ false
    → AllByRecursion (λ (m : OpenMember). is_member worker connection m ≡ true → is_due drain shown m ≡ false) ms
not_due worker connection drain shown ms apart none = each ms (sym (at_one worker (is_due drain shown) (λ m. refl) connection ms apart) ∙ none)
  where
    each : (xs : List OpenMember) → list_any (λ m. is_member worker connection m && is_due drain shown m) xs ≡ false
        → AllByRecursion (λ (m : OpenMember). is_member worker connection m ≡ true → is_due drain shown m ≡ false) xs
    each [] h = tt
    each (m ∷ xs) h =
        let parts = or_parts (is_member worker connection m && is_due drain shown m) (list_any (λ m. is_member worker connection m && is_due drain shown m) xs) h in
        (λ at. sym (ap (λ b. b && is_due drain shown m) at) ∙ parts.0, each xs parts.1)
