-- Numbers of a worker's connections in the ledger, and in the machine.
use Rattle.std.proofs.Common.{◌≡◌, ℕ, Bool, true, false, not, ◌&&◌, ◌||◌, ◌==◌, cond, nat_le, List, [], ◌∷◌, ◌++◌, filter, map, refl, sym, ap, ◌∙◌, subst, arith}
use Rattle.std.specs.List.{list_any, AllByRecursion}
use Rattle.std.proofs.lemmas.Bool.{true≢false, false≢true, or_parts}
use Rattle.std.proofs.lemmas.Bool.Decides.{nat_tests}
use Rattle.std.proofs.lemmas.List.Folds.{list_any-append}
use Rattle.std.specs.Ordering.{is_le, nat_cmp, ordering_then}
use Rattle.ev_types.specs.declared.rows.GenRow.{GenRow}
use Rattle.ev_model.specs.World.{OpenMember}
use Rattle.ev_model.specs.Sorted.{put_by, sorted_by}
use Rattle.ev_model.specs.Picture.{has_number}
use Rattle.ev_model.specs.Publishing.{ascending}
use Rattle.ev_model.specs.Connections.{closed, connections_where, is_member, is_open}
use Rattle.ev_ledger.specs.Members.{AreApart, HasOpened, in_order, member_before}
use Rattle.ev_ledger.proofs.PlaceLemmas.{closed_leaves, filter_in_order}
use Rattle.ev_drain.specs.Retired.{Retired, row_before, has_row, is_expired, is_numbered, is_retired, retired_in, HasRetired}
use Rattle.ev_retirement.specs.Closing.{closed_all, is_member_among}
use Rattle.ev_retirement.proofs.HoldLemmas.{unmarked}

-- what holds of all holds of the sorted ones
all_put : {X : Type 0} (le : X → X → Bool) (P : X → Type 0) (x : X) (ys : List X) → P x → AllByRecursion P ys → AllByRecursion P (put_by le x ys)
all_put le P x [] here all = (here, tt)
all_put le P x (y ∷ ys) here all = by (le x y) (all_put le P x ys here all.1)
  where
    by : (t : Bool) → AllByRecursion P (put_by le x ys) → AllByRecursion P (cond t (x ∷ y ∷ ys) (y ∷ put_by le x ys))
    by true rest = (here, all)
    by false rest = (all.0, rest)

all_sorted : {X : Type 0} (le : X → X → Bool) (P : X → Type 0) (xs : List X) → AllByRecursion P xs → AllByRecursion P (sorted_by le xs)
all_sorted le P [] all = tt
all_sorted le P (x ∷ xs) all = all_put le P x (sorted_by le xs) all.0 (all_sorted le P xs all.1)

-- the mark of a row in the drain is that of its number in the world
module _ (expired : List ℕ) where
  abbrev IsMarked : Retired → Type 0
  IsMarked row = row.expired ≡ has_number row.number expired

  all_marked : (rows : List GenRow) → AllByRecursion IsMarked (map (retired_in expired) rows)
  all_marked [] = tt
  all_marked (row ∷ rows) = (refl, all_marked rows)

  same_number : (m n : ℕ) → (m == n) ≡ true → m ≡ n
  same_number m n h = grind (arith, nat_tests)

  found_mark : (drain : List Retired) (n : ℕ) → AllByRecursion IsMarked drain → has_row drain n ≡ true → is_expired drain n ≡ has_number n expired
  found_mark [] n all has = absurd (false≢true has)
  found_mark (row ∷ drain) n all has = by (is_numbered n row) refl has (found_mark drain n all.1)
    where
      by : (t : Bool) → is_numbered n row ≡ t → (t || has_row drain n) ≡ true → (has_row drain n ≡ true → is_expired drain n ≡ has_number n expired)
          → is_expired (row ∷ drain) n ≡ has_number n expired
      by true at has rest = simp at (all.0 ∙ ap (λ k. has_number k expired) (same_number row.number n at))
      by false at has rest = simp at (rest has)

  no_mark : (drain : List Retired) (n : ℕ) → has_row drain n ≡ false → is_expired drain n ≡ false
  no_mark [] n none = refl
  no_mark (row ∷ drain) n none =
      let parts = or_parts (is_numbered n row) (has_row drain n) none in
      simp (parts.0) (no_mark drain n parts.1)

  pub marks : (drain : List Retired) (rows : List GenRow) → HasRetired drain rows expired → AllByRecursion (λ n. has_row drain n ≡ true) expired
      → (n : ℕ) → is_expired drain n ≡ has_number n expired
  marks drain rows retired marked n = by (has_row drain n) refl
    where
      all : AllByRecursion IsMarked drain
      all = subst (AllByRecursion IsMarked) (sym retired) (all_sorted row_before IsMarked (map (retired_in expired) (filter is_retired rows)) (all_marked (filter is_retired rows)))

      by : (t : Bool) → has_row drain n ≡ t → is_expired drain n ≡ has_number n expired
      by true has = found_mark drain n all has
      by false none = no_mark drain n none ∙ sym (unmarked drain n expired none marked)

-- the numbers of a worker's connections that pass a test
module _ (worker : ℕ) (test : OpenMember → Bool) (of : (m : OpenMember) → test m ≡ true → (m.worker == worker) ≡ true) where
  -- connections of one worker are in the order of their numbers
  abbrev IsOf : OpenMember → Type 0
  IsOf m = (m.worker == worker) ≡ true

  worker_order : (a b x y w : ℕ) → (a == w) ≡ true → (b == w) ≡ true → is_le (ordering_then (nat_cmp a b) (nat_cmp x y)) ≡ nat_le x y
  worker_order a b x y w first second = grind (arith, nat_tests)

  put_numbers : (m : OpenMember) (ms : List OpenMember) → IsOf m → AllByRecursion IsOf ms
      → map (λ (x : OpenMember). x.connection) (put_by member_before m ms) ≡ put_by nat_le m.connection (map (λ (x : OpenMember). x.connection) ms)
  put_numbers m [] here all = refl
  put_numbers m (x ∷ ms) here all =
      by (member_before m x) (nat_le m.connection x.connection) (worker_order m.worker x.worker m.connection x.connection worker here all.0) (put_numbers m ms here all.1)
    where
      by : (s t : Bool) → s ≡ t → map (λ (y : OpenMember). y.connection) (put_by member_before m ms) ≡ put_by nat_le m.connection (map (λ (y : OpenMember). y.connection) ms)
          → map (λ (y : OpenMember). y.connection) (cond s (m ∷ x ∷ ms) (x ∷ put_by member_before m ms))
          ≡ cond t (m.connection ∷ x.connection ∷ map (λ (y : OpenMember). y.connection) ms) (x.connection ∷ put_by nat_le m.connection (map (λ (y : OpenMember). y.connection) ms))
      by true true h rest = refl
      by true false h rest = absurd (true≢false h)
      by false true h rest = absurd (false≢true h)
      by false false h rest = ap (λ ns. x.connection ∷ ns) rest

  sorted_numbers : (ms : List OpenMember) → AllByRecursion IsOf ms
      → map (λ (x : OpenMember). x.connection) (in_order ms) ≡ ascending (map (λ (x : OpenMember). x.connection) ms)
  sorted_numbers [] all = refl
  sorted_numbers (m ∷ ms) all =
      put_numbers m (in_order ms) all.0 (all_sorted member_before IsOf ms all.1) ∙ ap (put_by nat_le m.connection) (sorted_numbers ms all.1)

  passing_of : (ms : List OpenMember) → AllByRecursion IsOf (filter test ms)
  passing_of [] = tt
  passing_of (m ∷ ms) = by (test m) refl (passing_of ms)
    where
      by : (t : Bool) → test m ≡ t → AllByRecursion IsOf (filter test ms) → AllByRecursion IsOf (cond t (m ∷ filter test ms) (filter test ms))
      by true is rest = (of m is, rest)
      by false is rest = rest

  pub in_ledger : (ledger opened : List OpenMember) → HasOpened ledger opened
      → map (λ (m : OpenMember). m.connection) (filter test ledger) ≡ connections_where test opened
  in_ledger ledger opened has =
      ap (λ ms. map (λ (m : OpenMember). m.connection) (filter test ms)) has
      ∙ ap (map (λ (m : OpenMember). m.connection)) (filter_in_order test opened)
      ∙ sorted_numbers (filter test opened) (passing_of opened)

  -- where no two are of one worker and number, a connection passes exactly where its number is among those that pass
  number_own : (a : ℕ) → (a == a) ≡ true
  number_own a = grind (arith, nat_tests)

  test_apart : (mw mc zw zc : ℕ) (a : Bool) → (mw == worker) ≡ true → ((zw == mw) && (zc == mc)) ≡ false
      → ((zw == worker) && ((mc == zc) || a)) ≡ ((zw == worker) && a)
  test_apart mw mc zw zc true own apart = grind (arith, nat_tests)
  test_apart mw mc zw zc false own apart = grind (arith, nat_tests)

  abbrev Passes : List OpenMember → OpenMember → Type 0
  Passes ms m = ((m.worker == worker) && list_any (λ (y : OpenMember). y.connection == m.connection) (filter test ms)) ≡ test m

  passes_later : (m : OpenMember) (ms zs : List OpenMember) → is_open zs m.worker m.connection ≡ false → AllByRecursion (Passes ms) zs → AllByRecursion (Passes (m ∷ ms)) zs
  passes_later m ms [] none all = tt
  passes_later m ms (z ∷ zs) none all =
      let parts = or_parts (is_member m.worker m.connection z) (is_open zs m.worker m.connection) none in
      (by (test m) refl parts.0 all.0, passes_later m ms zs parts.1 all.1)
    where
      by : (t : Bool) → test m ≡ t → is_member m.worker m.connection z ≡ false → Passes ms z
          → ((z.worker == worker) && list_any (λ (y : OpenMember). y.connection == z.connection) (cond t (m ∷ filter test ms) (filter test ms))) ≡ test z
      by true is apart rest =
          test_apart m.worker m.connection z.worker z.connection (list_any (λ (y : OpenMember). y.connection == z.connection) (filter test ms)) (of m is) apart ∙ rest
      by false is apart rest = rest

  other_place : (mw mc yw yc : ℕ) → (mw == worker) ≡ true → (yw == worker) ≡ true → ((yw == mw) && (yc == mc)) ≡ false → (yc == mc) ≡ false
  other_place mw mc yw yc first second apart = grind (arith, nat_tests)

  none_passing : (m : OpenMember) (ms : List OpenMember) → (m.worker == worker) ≡ true → is_open ms m.worker m.connection ≡ false
      → list_any (λ (y : OpenMember). y.connection == m.connection) (filter test ms) ≡ false
  none_passing m [] own none = refl
  none_passing m (y ∷ ms) own none =
      let parts = or_parts (is_member m.worker m.connection y) (is_open ms m.worker m.connection) none in
      by (test y) refl parts.0 (none_passing m ms own parts.1)
    where
      by : (t : Bool) → test y ≡ t → is_member m.worker m.connection y ≡ false
          → list_any (λ (x : OpenMember). x.connection == m.connection) (filter test ms) ≡ false
          → list_any (λ (x : OpenMember). x.connection == m.connection) (cond t (y ∷ filter test ms) (filter test ms)) ≡ false
      by true is apart rest =
          ap (λ b. b || list_any (λ (x : OpenMember). x.connection == m.connection) (filter test ms))
          (other_place m.worker m.connection y.worker y.connection own (of y is) apart) ∙ rest
      by false is apart rest = rest

  passes_own : (ms : List OpenMember) → AreApart ms → AllByRecursion (Passes ms) ms
  passes_own [] apart = tt
  passes_own (m ∷ ms) apart = (by (m.worker == worker) (test m) refl refl, passes_later m ms ms apart.0 (passes_own ms apart.1))
    where
      by : (a b : Bool) → (m.worker == worker) ≡ a → test m ≡ b
          → (a && list_any (λ (y : OpenMember). y.connection == m.connection) (cond b (m ∷ filter test ms) (filter test ms))) ≡ b
      by true true own is = ap (λ t. t || list_any (λ (y : OpenMember). y.connection == m.connection) (filter test ms)) (number_own m.connection)
      by true false own is = none_passing m ms own apart.0
      by false true own is = absurd (false≢true (sym own ∙ of m is))
      by false false own is = refl

  any_mapped : (ms : List OpenMember) (number : ℕ) → has_number number (map (λ (m : OpenMember). m.connection) ms) ≡ list_any (λ (y : OpenMember). y.connection == number) ms
  any_mapped [] number = refl
  any_mapped (m ∷ ms) number = ap (λ b. (m.connection == number) || b) (any_mapped ms number)

  all_same : (ms zs : List OpenMember) → AllByRecursion (Passes ms) zs
      → AllByRecursion (λ m. is_member_among worker (map (λ (x : OpenMember). x.connection) (filter test ms)) m ≡ test m) zs
  all_same ms [] all = tt
  all_same ms (z ∷ zs) all =
      (ap (λ b. (z.worker == worker) && b) (any_mapped (filter test ms) z.connection) ∙ all.0, all_same ms zs all.1)

  pub among_passing : (ms : List OpenMember) → AreApart ms
      → AllByRecursion (λ m. is_member_among worker (map (λ (x : OpenMember). x.connection) (filter test ms)) m ≡ test m) ms
  among_passing ms apart = all_same ms ms (passes_own ms apart)

-- a filter by what passes nowhere more
pub filter_same : (p q : OpenMember → Bool) (ms : List OpenMember) → AllByRecursion (λ m. p m ≡ q m) ms → filter (λ m. not (p m)) ms ≡ filter (λ m. not (q m)) ms
filter_same p q [] all = refl
filter_same p q (m ∷ ms) all = by (p m) (q m) all.0 (filter_same p q ms all.1)
  where
    by : (s t : Bool) → s ≡ t → filter (λ x. not (p x)) ms ≡ filter (λ x. not (q x)) ms
        → cond (not s) (m ∷ filter (λ x. not (p x)) ms) (filter (λ x. not (p x)) ms) ≡ cond (not t) (m ∷ filter (λ x. not (q x)) ms) (filter (λ x. not (q x)) ms)
    by true true h rest = rest
    by true false h rest = absurd (true≢false h)
    by false true h rest = absurd (false≢true h)
    by false false h rest = ap (λ l. m ∷ l) rest

-- closing one number after another
pub none_gone : (worker : ℕ) (opened : List OpenMember) → opened ≡ closed_all worker [] opened
none_gone worker [] = refl
none_gone worker (m ∷ opened) = by (m.worker == worker) (none_gone worker opened)
  where
    by : (a : Bool) → opened ≡ closed_all worker [] opened → m ∷ opened ≡ cond (not (a && false)) (m ∷ closed_all worker [] opened) (closed_all worker [] opened)
    by true rest = ap (λ l. m ∷ l) rest
    by false rest = ap (λ l. m ∷ l) rest

one_turned : (a b : ℕ) → (a == b) ≡ (b == a)
one_turned a b = grind (arith, nat_tests)

either : (own had is : Bool) → (not (own && had) && not (own && is)) ≡ not (own && (had || (is || false)))
either true true is = refl
either true false true = refl
either true false false = refl
either false had is = refl

pub one_more_gone : (worker number : ℕ) (numbers : List ℕ) (opened : List OpenMember)
    → (closed number worker (closed_all worker numbers opened)).opened ≡ closed_all worker (numbers ++ number ∷ []) opened
one_more_gone worker number numbers opened = closed_leaves worker number (closed_all worker numbers opened) ∙ both opened
  where
    test : (m : OpenMember) → (not (is_member_among worker numbers m) && not (is_member worker number m)) ≡ not (is_member_among worker (numbers ++ number ∷ []) m)
    test m =
        ap (λ b. not (is_member_among worker numbers m) && not ((m.worker == worker) && b)) (one_turned m.connection number)
        ∙ either (m.worker == worker) (has_number m.connection numbers) (number == m.connection)
        ∙ ap (λ b. not ((m.worker == worker) && b)) (sym (list_any-append (λ n. n == m.connection) numbers (number ∷ [])))

    both : (ms : List OpenMember) → filter (λ m. not (is_member worker number m)) (closed_all worker numbers ms) ≡ closed_all worker (numbers ++ number ∷ []) ms
    both [] = refl
    both (m ∷ ms) = by (not (is_member_among worker numbers m)) (not (is_member worker number m)) (not (is_member_among worker (numbers ++ number ∷ []) m)) (test m) refl (both ms)
      where
        by : (s t u : Bool) → (s && t) ≡ u → not (is_member worker number m) ≡ t
            → filter (λ x. not (is_member worker number x)) (closed_all worker numbers ms) ≡ closed_all worker (numbers ++ number ∷ []) ms
            → filter (λ x. not (is_member worker number x)) (cond s (m ∷ closed_all worker numbers ms) (closed_all worker numbers ms))
            ≡ cond u (m ∷ closed_all worker (numbers ++ number ∷ []) ms) (closed_all worker (numbers ++ number ∷ []) ms)
        by true true true h is rest =
            ap (λ b. cond b (m ∷ filter (λ x. not (is_member worker number x)) (closed_all worker numbers ms)) (filter (λ x. not (is_member worker number x)) (closed_all worker numbers ms))) is
            ∙ ap (λ l. m ∷ l) rest
        by true true false h is rest = absurd (true≢false h)
        by true false true h is rest = absurd (false≢true h)
        by true false false h is rest =
            ap (λ b. cond b (m ∷ filter (λ x. not (is_member worker number x)) (closed_all worker numbers ms)) (filter (λ x. not (is_member worker number x)) (closed_all worker numbers ms))) is
            ∙ rest
        by false t true h is rest = absurd (false≢true h)
        by false t false h is rest = rest
