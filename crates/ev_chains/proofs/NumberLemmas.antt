-- Numbers of chains: lists of them, and those of the next listener's chains.
use Rattle.std.proofs.Common.{◌≡◌, ℕ, ◌≤◌, ◌==◌, Bool, true, false, not, ◌&&◌, ◌||◌, cond, nat_eq, nat_le, List, [], ◌∷◌, ◌++◌, filter, find, map, Option, Some, None, is_some, refl, sym, ap, ◌∙◌, subst, arith, inl, inr}
use Rattle.std.specs.Prelude.{◌⊎◌}
use Rattle.std.specs.List.{list_any, AllByRecursion, IsDistinct}
use Rattle.std.specs.Option.{option_or}
use Rattle.std.specs.Str.{str_to_ascii_lowercase}
use Rattle.std.proofs.lemmas.Bool.{true≢false, false≢true, or_parts}
use Rattle.std.proofs.lemmas.Bool.Decides.{nat_tests}
use Rattle.std.proofs.lemmas.List.Folds.{list_any-append}
use Rattle.ev_model.specs.Picture.{has_number}
use Rattle.ev_model.specs.Publishing.{ascending}
use Rattle.ev_ledger.proofs.OrderLemmas.{sum_sorted, sorted_rises}
use Rattle.ev_chains.specs.declared.rows.Chain.{Chain}
use Rattle.ev_chains.specs.declared.rows.Row.{Row}
use Rattle.ev_chains.specs.Rows.{asked_port, chosen, clashes, first_named, has_clash, match_of, row_has}
use Rattle.ev_chains.specs.Listed.{number_in, number_for}
use Rattle.ev_chains.specs.Names.{asked_names}
use Rattle.ev_chains.specs.State.{gone_in, has_equal_chain, made_by, number_of, numbered}
use Rattle.ev_chains.specs.Kept.{Apart, AreNumbered, HasRow, is_in}
use Rattle.ev_chains.proofs.ConnLemmas.{any_first, any_left, count_apart, one_if, own, same}
use Rattle.ev_chains.proofs.KeyLemmas.{any_same}
use Rattle.ev_chains.proofs.ListLemmas.{counts, nat_order, same_counts}
use Rattle.ev_chains.proofs.NextLemmas.{numbered_matches}
use Rattle.ev_chains.proofs.RowLemmas.{GotNumber, for_none, for_some, made_more, or_true, own_clash, right_true, row_number, sound_next}

pub not_true : (b : Bool) → (b ≡ true → ⊥) → b ≡ false
not_true true none = absurd (none refl)
not_true false none = refl

-- ---- lists of numbers

both_false : (a b : Bool) → (a && false) ≡ (b && false)
both_false true true = refl
both_false true false = refl
both_false false true = refl
both_false false false = refl

pub has_filter : (p : ℕ → Bool) (n : ℕ) (xs : List ℕ) → has_number n (filter p xs) ≡ (p n && has_number n xs)
has_filter p n xs =
    any_left (λ k. k == n) p xs ∙ any_same (λ k. p k && (k == n)) (λ k. p n && (k == n)) (λ k. at k (k == n) refl) xs ∙ any_first (p n) (λ k. k == n) xs
  where
    at : (k : ℕ) (t : Bool) → (k == n) ≡ t → (p k && (k == n)) ≡ (p n && (k == n))
    at k true is = ap (λ j. p j && (k == n)) (same k n is)
    at k false is = ap (λ b. p k && b) is ∙ both_false (p k) (p n) ∙ ap (λ b. p n && b) (sym is)

turned : (a b : ℕ) → nat_eq a b ≡ (b == a)
turned a b = grind (arith, nat_tests)

pub in_has : (n : ℕ) (xs : List ℕ) → is_in xs n ≡ has_number n xs
in_has n xs = any_same (nat_eq n) (λ k. k == n) (turned n) xs

-- numbers of a list that pass one test pass the other
pub filter_where : (p q : ℕ → Bool) (xs : List ℕ) → ((n : ℕ) → has_number n xs ≡ true → p n ≡ q n) → filter p xs ≡ filter q xs
filter_where p q [] all = refl
filter_where p q (x ∷ xs) all =
    let here = all x (ap (λ b. b || has_number x xs) (own x)) in
    let rest = filter_where p q xs (λ n has. all n (right_true (x == n) (has_number n xs) has)) in
    λ i. cond (here i) (x ∷ rest i) (rest i)

pub filter_all : (xs : List ℕ) → filter (λ x. true) xs ≡ xs
filter_all [] = refl
filter_all (x ∷ xs) = ap (λ ys. x ∷ ys) (filter_all xs)

pub filter_twice : (p q : ℕ → Bool) (xs : List ℕ) → filter q (filter p xs) ≡ filter (λ x. p x && q x) xs
filter_twice p q [] = refl
filter_twice p q (x ∷ xs) = by (p x) (filter_twice p q xs)
  where
    by : (t : Bool) → filter q (filter p xs) ≡ filter (λ y. p y && q y) xs
        → filter q (cond t (x ∷ filter p xs) (filter p xs)) ≡ cond (t && q x) (x ∷ filter (λ y. p y && q y) xs) (filter (λ y. p y && q y) xs)
    by true rest = ap (λ ys. cond (q x) (x ∷ ys) ys) rest
    by false rest = rest

-- ---- numbers that are apart

pub apart_append : (xs ys : List ℕ) → Apart xs → Apart ys → ((n : ℕ) → has_number n xs ≡ true → has_number n ys ≡ false) → Apart (xs ++ ys)
apart_append [] ys first second none = second
apart_append (x ∷ xs) ys first second none = (
  list_any-append (λ k. k == x) xs ys ∙ (λ i. first.0 i || none x (ap (λ b. b || has_number x xs) (own x)) i),
  apart_append xs ys first.1 second (λ n has. none n (right_true (x == n) (has_number n xs) has)),
)

pub apart_filter : (p : ℕ → Bool) (xs : List ℕ) → Apart xs → Apart (filter p xs)
apart_filter p [] apart = tt
apart_filter p (x ∷ xs) apart = by (p x) (apart_filter p xs apart.1)
  where
    by : (t : Bool) → Apart (filter p xs) → Apart (cond t (x ∷ filter p xs) (filter p xs))
    by true rest = (has_filter p x xs ∙ ap (λ b. p x && b) apart.0 ∙ both_false (p x) false, rest)
    by false rest = rest

distinct_none : (x : ℕ) (xs : List ℕ) → AllByRecursion (λ y. nat_eq x y ≡ false) xs → has_number x xs ≡ false
distinct_none x [] all = refl
distinct_none x (y ∷ ys) all = (λ i. (sym (turned x y) ∙ all.0) i || distinct_none x ys all.1 i)

pub distinct_apart : (xs : List ℕ) → IsDistinct nat_eq xs → Apart xs
unfolding IsDistinct
distinct_apart [] distinct = tt
distinct_apart (x ∷ xs) distinct = (distinct_none x xs distinct.0, distinct_apart xs distinct.1)

-- those with the same numbers are the same in order
pub ascending_same : (xs ys : List ℕ) → Apart xs → Apart ys → ((n : ℕ) → has_number n xs ≡ has_number n ys) → ascending xs ≡ ascending ys
ascending_same xs ys first second same =
    same_counts (ascending xs) (ascending ys) (sorted_rises nat_le nat_order xs) (sorted_rises nat_le nat_order ys)
    (λ n. sum_sorted nat_le (counts n) xs ∙ count_apart n xs first ∙ ap one_if (same n) ∙ sym (count_apart n ys second) ∙ sym (sum_sorted nat_le (counts n) ys))

-- ---- rows that are found

found_row : (p : Row → Bool) (rows : List Row) (number : ℕ) → number_in (find p rows) ≡ Some number → (chain : Chain) × HasRow number chain rows
found_row p [] number is = absurd (cc is)
found_row p (row ∷ rows) number is = by (p row) is (found_row p rows number)
  where
    by : (t : Bool) → number_in (cond t (Some row) (find p rows)) ≡ Some number → (number_in (find p rows) ≡ Some number → (chain : Chain) × HasRow number chain rows)
        → (chain : Chain) × HasRow number chain (row ∷ rows)
    by true h rest = (row.chain, inl (cc h, refl))
    by false h rest = let found = rest h in (found.0, inr found.1)

named_row : (port : Option ℕ) (names : List (Option (List ℕ))) (rows : List Row) (number : ℕ) → number_in (first_named port names rows) ≡ Some number
    → (chain : Chain) × HasRow number chain rows
named_row port [] rows number is = absurd (cc is)
named_row port (name ∷ names) rows number is = by (find (row_has record { port = port; name = name }) rows) refl is (named_row port names rows number)
  where
    by : (found : Option Row) → find (row_has record { port = port; name = name }) rows ≡ found → number_in (option_or found (first_named port names rows)) ≡ Some number
        → (number_in (first_named port names rows) ≡ Some number → (chain : Chain) × HasRow number chain rows) → (chain : Chain) × HasRow number chain rows
    by (Some row) at h rest = found_row (row_has record { port = port; name = name }) rows number (ap number_in at ∙ h)
    by None at h rest = rest h

pub chosen_row : (server : List ℕ) (port : ℕ) (rows : List Row) (number : ℕ) → number_in (chosen server port rows) ≡ Some number → (chain : Chain) × HasRow number chain rows
chosen_row server port rows number is = named_row (asked_port port rows) (asked_names (str_to_ascii_lowercase server)) rows number is

-- ---- rows that go

-- a number that goes is that of a row that none of the next equals
gone_row : (n : ℕ) (next rows : List Row) → has_number n (gone_in next rows) ≡ true → (chain : Chain) × (HasRow n chain rows × (number_for chain next ≡ None))
gone_row n next [] has = absurd (false≢true has)
gone_row n next (row ∷ rows) has = by (number_for row.chain next) refl has (gone_row n next rows)
  where
    later : (chain : Chain) × (HasRow n chain rows × (number_for chain next ≡ None)) → (chain : Chain) × (HasRow n chain (row ∷ rows) × (number_for chain next ≡ None))
    later found = (found.0, (inr found.1.0, found.1.1))

    by : (found : Option ℕ) → number_for row.chain next ≡ found
        → has_number n (map number_of (cond (not (is_some found)) (row ∷ filter (λ r. not (has_equal_chain next r)) rows) (filter (λ r. not (has_equal_chain next r)) rows))) ≡ true
        → (has_number n (gone_in next rows) ≡ true → (chain : Chain) × (HasRow n chain rows × (number_for chain next ≡ None)))
        → (chain : Chain) × (HasRow n chain (row ∷ rows) × (number_for chain next ≡ None))
    by (Some other) is h rest = later (rest h)
    by None is h rest = elim (or_true (row.number == n) (has_number n (gone_in next rows)) h) [
      | inl here ↦ (row.chain, (inl (same row.number n here, refl), is))
      | inr there ↦ later (rest there)
    ]

no_twin : (n : ℕ) (chain : Chain) (rows : List Row) → list_any (clashes chain.matches) (map match_of rows) ≡ false → HasRow n chain rows → ⊥
no_twin n chain [] none has = has
no_twin n chain (row ∷ rows) none (inl here) =
    true≢false (sym (own_clash rows chain.matches) ∙ ap (λ (x : Chain). clashes chain.matches x.matches) (sym here.1)
    ∙ (or_parts (clashes chain.matches (match_of row)) (list_any (clashes chain.matches) (map match_of rows)) none).0)
no_twin n chain (row ∷ rows) none (inr there) =
    no_twin n chain rows (or_parts (clashes chain.matches (match_of row)) (list_any (clashes chain.matches) (map match_of rows)) none).1 there

-- where no number represents two chains and no chain is there twice, those that go are apart
each_once : (next rows : List Row) → has_clash (map match_of rows) ≡ false
    → ((number : ℕ) (one other : Chain) → HasRow number one rows → HasRow number other rows → one ≡ other) → Apart (gone_in next rows)
each_once next [] clear one = tt
each_once next (row ∷ rows) clear one =
    let parts = or_parts (list_any (clashes (match_of row)) (map match_of rows)) (has_clash (map match_of rows)) clear in
    by (has_equal_chain next row) parts.0 (each_once next rows parts.1 (λ number a b has has'. one number a b (inr has) (inr has')))
  where
    by : (t : Bool) → list_any (clashes (match_of row)) (map match_of rows) ≡ false → Apart (gone_in next rows)
        → Apart (map number_of (cond (not t) (row ∷ filter (λ r. not (has_equal_chain next r)) rows) (filter (λ r. not (has_equal_chain next r)) rows)))
    by true none rest = rest
    by false none rest = (
      not_true (has_number row.number (gone_in next rows)) (λ has.
          let found = gone_row row.number next rows has in
          no_twin row.number row.chain rows none
          (subst (λ x. HasRow row.number x rows) (sym (one row.number row.chain found.0 (inl (refl, refl)) (inr found.1.0))) found.1.0)),
      rest,
    )

-- ---- the numbers once a listener is accepted

module _ (made : ℕ) (old : List Row) (began : List ℕ) (kept : AreNumbered made old began) where
  -- those that go are apart, and new among those that began to drain
  pub gone_apart : (rows : List Row) → Apart (gone_in rows old)
  gone_apart rows = each_once rows old kept.clear kept.sound.one_chain

  pub gone_new : (rows : List Row) (n : ℕ) → has_number n began ≡ true → has_number n (gone_in rows old) ≡ false
  gone_new rows n has = not_true (has_number n (gone_in rows old)) (λ goes.
      let found = gone_row n rows old goes in
      false≢true (sym (kept.other n found.0 found.1.0) ∙ has))

  gone_drawn : (rows : List Row) (n : ℕ) → has_number n (gone_in rows old) ≡ true → n ≤ made
  gone_drawn rows n goes = let found = gone_row n rows old goes in kept.sound.below n found.0 found.1.0

  module _ (chains : List Chain) where
    abbrev next : List Row
    next = numbered made old chains

    -- a chain that serves then has no number of one that began to drain
    others : (n : ℕ) (chain : Chain) → HasRow n chain next → GotNumber made old chain n → (has_number n began ≡ true) ⊎ (has_number n (gone_in next old) ≡ true) → ⊥
    others n chain has (inl found) (inl before) = true≢false (sym before ∙ kept.other n chain (for_some chain old n found))
    others n chain has (inl found) (inr goes) =
        let row = gone_row n next old goes in
        for_none row.0 next n row.1.1
        (subst (λ x. HasRow n x next) (kept.sound.one_chain n chain row.0 (for_some chain old n found) row.1.0) has)
    others n chain has (inr fresh) (inl before) = let low = kept.drawn n before in let high = fresh.1 in absurd (omega (arith, low, high))
    others n chain has (inr fresh) (inr goes) = let low = gone_drawn next n goes in let high = fresh.1 in absurd (omega (arith, low, high))

    parts : (n : ℕ) → has_number n (began ++ gone_in next old) ≡ true → (has_number n began ≡ true) ⊎ (has_number n (gone_in next old) ≡ true)
    parts n has = or_true (has_number n began) (has_number n (gone_in next old)) (sym (list_any-append (λ k. k == n) began (gone_in next old)) ∙ has)

    low : (n : ℕ) → (has_number n began ≡ true) ⊎ (has_number n (gone_in next old) ≡ true) → n ≤ made
    low n (inl before) = kept.drawn n before
    low n (inr goes) = gone_drawn next n goes

    accepted : has_clash (map match_of next) ≡ false → AreNumbered (made_by made old chains) next (began ++ gone_in next old)
    accepted clear = record {
      clear = clear;
      sound = sound_next old made chains (ap has_clash (sym (numbered_matches made old chains)) ∙ clear) kept.sound;
      apart = apart_append began (gone_in next old) kept.apart (gone_apart next) (gone_new next);
      drawn = λ n has. let first = low n (parts n has) in let more = made_more old made chains in omega (arith, first, more);
      other = λ n chain has. not_true (has_number n (began ++ gone_in next old)) (λ had. others n chain has (row_number old made chains n chain has) (parts n had));
    }

    pub numbered_then : (rows : List Row) (made_then : ℕ) → next ≡ rows → made_by made old chains ≡ made_then → has_clash (map match_of rows) ≡ false
        → AreNumbered made_then rows (began ++ gone_in rows old)
    numbered_then rows made_then is_rows is_made clear =
        subst (λ (n : ℕ). AreNumbered n rows (began ++ gone_in rows old)) is_made
        (subst (λ (rs : List Row). AreNumbered (made_by made old chains) rs (began ++ gone_in rs old)) is_rows
        (accepted (ap (λ (rs : List Row). has_clash (map match_of rs)) is_rows ∙ clear)))
