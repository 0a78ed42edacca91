-- Lists in the order of their elements' names, whose numbers differ: two that find the same by number are equal, and
-- what changes by number is put to its place.
use Rattle.std.proofs.Common.{◌≡◌, ◌∙◌, ℕ, Bool, true, false, not, ◌||◌, ◌==◌, cond, List, [], ◌∷◌, Option, Some, None, Ordering, find, filter, refl, sym, ap, subst, arith}
use Rattle.std.proofs.Math.Bool.{or-false, or-true}
use Rattle.std.specs.declared.cmp.Ordering.TheVariants.{Less, Equal, Greater}
use Rattle.std.specs.Cmp.Lexicographic.{slice_cmp}
use Rattle.std.specs.List.{AllByRecursion}
use Rattle.std.specs.Ordering.{nat_cmp, is_lt, is_eq, ordering_reverse}
use Rattle.std.specs.Str.{bytes_eq}
use Rattle.std.proofs.lemmas.Bool.{false≢true, true≢false, eqb-true}
use Rattle.std.proofs.lemmas.Bool.Decides.{nat_tests}
use Rattle.std.proofs.lemmas.Cmp.{nat_list_cmp_total}
use Rattle.std.proofs.lemmas.Map.Text.{is_eq-slice_cmp}
use Rattle.ev_model.specs.Sorted.{put_by, sorted_by}
use Rattle.ev_model.specs.Versions.{is_before}

-- a name that comes before another isn't after it, and isn't the same
less_is : (r : Ordering) → is_lt r ≡ true → r ≡ Less
less_is Less h = refl
less_is Equal h = absurd (false≢true h)
less_is Greater h = absurd (false≢true h)

before_less : (a b : List ℕ) → is_before a b ≡ true → slice_cmp nat_cmp a b ≡ Less
before_less a b h = less_is (slice_cmp nat_cmp a b) h

pub not_behind : (a b : List ℕ) → is_before a b ≡ true → is_before b a ≡ false
not_behind a b h = ap is_lt (nat_list_cmp_total.antisymm b a ∙ ap ordering_reverse (before_less a b h))

pub not_same : (a b : List ℕ) → is_before a b ≡ true → bytes_eq a b ≡ false
not_same a b h = sym (is_eq-slice_cmp a b) ∙ ap is_eq (before_less a b h)

pub not_same_back : (a b : List ℕ) → is_before a b ≡ true → bytes_eq b a ≡ false
not_same_back a b h = sym (is_eq-slice_cmp b a) ∙ ap is_eq (nat_list_cmp_total.antisymm b a ∙ ap ordering_reverse (before_less a b h))

-- of two names that differ, one comes before the other
pub turns : (a b : List ℕ) → is_before a b ≡ false → bytes_eq a b ≡ false → is_before b a ≡ true
turns a b h k = by (slice_cmp nat_cmp a b) refl h (is_eq-slice_cmp a b ∙ k)
  where
    by : (r : Ordering) → slice_cmp nat_cmp a b ≡ r → is_lt r ≡ false → is_eq (slice_cmp nat_cmp a b) ≡ false → is_before b a ≡ true
    by Less e f g = absurd (true≢false f)
    by Equal e f g = absurd (true≢false (ap is_eq (sym e) ∙ g))
    by Greater e f g = ap is_lt (nat_list_cmp_total.antisymm b a ∙ ap ordering_reverse e)

pub before_then : (a b c : List ℕ) → is_before a b ≡ true → is_before b c ≡ true → is_before a c ≡ true
before_then a b c h k = ap is_lt (nat_list_cmp_total.trans a b c (before_less a b h) (before_less b c k))

pub own_number : (n : ℕ) → (n == n) ≡ true
own_number n = grind (arith, nat_tests)

pub number_same : (n m : ℕ) → (n == m) ≡ true → n ≡ m
number_same n m is = eqb-true n m is

pub number_turned : (n m : ℕ) → (n == m) ≡ (m == n)
number_turned n m = grind (arith, nat_tests)

-- what holds of each element
pub all_so : {X : Type 0} (P Q : X → Type 0) (ys : List X) → ((y : X) → P y → Q y) → AllByRecursion P ys → AllByRecursion Q ys
all_so P Q [] so all = tt
all_so P Q (y ∷ ys) so all = (so y all.0, all_so P Q ys so all.1)

pub all_left : {X : Type 0} (P : X → Type 0) (q : X → Bool) (ys : List X) → AllByRecursion P ys → AllByRecursion P (filter q ys)
all_left P q [] all = tt
all_left P q (y ∷ ys) all = by (q y) (all_left P q ys all.1)
  where
    by : (t : Bool) → AllByRecursion P (filter q ys) → AllByRecursion P (cond t (y ∷ filter q ys) (filter q ys))
    by true rest = (all.0, rest)
    by false rest = rest

pub all_found : {X : Type 0} (P : X → Type 0) (q : X → Bool) (ys : List X) (x : X) → AllByRecursion P ys → find q ys ≡ Some x → P x
all_found P q [] x all is = absurd (cc is)
all_found P q (y ∷ ys) x all is = by (q y) is (λ e. all_found P q ys x all.1 e)
  where
    same : Some y ≡ Some x → y ≡ x
    same e = cc e

    by : (t : Bool) → cond t (Some y) (find q ys) ≡ Some x → (find q ys ≡ Some x → P x) → P x
    by true e rest = subst P (same e) all.0
    by false e rest = rest e

pub none_found : {X : Type 0} (q : X → Bool) (ys : List X) → AllByRecursion (λ y. q y ≡ false) ys → find q ys ≡ None
none_found q [] all = refl
none_found q (y ∷ ys) all = ap (λ t. cond t (Some y) (find q ys)) all.0 ∙ none_found q ys all.1

pub all_pass : {X : Type 0} (q : X → Bool) (ys : List X) → AllByRecursion (λ y. q y ≡ true) ys → filter q ys ≡ ys
all_pass q [] all = refl
all_pass q (y ∷ ys) all = ap (λ t. cond t (y ∷ filter q ys) (filter q ys)) all.0 ∙ ap (λ zs. y ∷ zs) (all_pass q ys all.1)

pub pass_same : {X : Type 0} (p q : X → Bool) (ys : List X) → AllByRecursion (λ y. p y ≡ q y) ys → filter p ys ≡ filter q ys
pass_same p q [] all = refl
pass_same p q (y ∷ ys) all = λ i. cond (all.0 i) (y ∷ pass_same p q ys all.1 i) (pass_same p q ys all.1 i)

module _ {X : Type 0} (name : X → List ℕ) (number : X → ℕ) where
  -- the first of this number
  abbrev pub numbered : List X → ℕ → Option X
  numbered xs n = find (λ x. number x == n) xs

  -- this element comes before another one, and has another number
  pub record StandsBefore (x y : X) : Type 0 where
    pub names : is_before (name x) (name y) ≡ true
    pub numbers : (number x == number y) ≡ false

  -- each comes before all after it
  abbrev pub AreInOrder : List X → Type 0
  AreInOrder [] = Unit {0}
  AreInOrder (x ∷ xs) = AllByRecursion (StandsBefore x) xs × AreInOrder xs

  -- two elements have different names, and different numbers
  pub record Differ (x y : X) : Type 0 where
    pub names : bytes_eq (name x) (name y) ≡ false
    pub numbers : (number x == number y) ≡ false

  -- any two differ
  abbrev pub AllDiffer : List X → Type 0
  AllDiffer [] = Unit {0}
  AllDiffer (x ∷ xs) = AllByRecursion (Differ x) xs × AllDiffer xs

  all_put : (P : X → Type 0) (x : X) (ys : List X) → P x → AllByRecursion P ys → AllByRecursion P (put_by (λ y z. is_before (name y) (name z)) x ys)
  all_put P x [] here all = (here, tt)
  all_put P x (y ∷ ys) here all = by (is_before (name x) (name y)) (all_put P x ys here all.1)
    where
      by : (t : Bool) → AllByRecursion P (put_by (λ y z. is_before (name y) (name z)) x ys)
          → AllByRecursion P (cond t (x ∷ y ∷ ys) (y ∷ put_by (λ y z. is_before (name y) (name z)) x ys))
      by true rest = (here, all)
      by false rest = (all.0, rest)

  put_order : (x : X) (ys : List X) → AllByRecursion (Differ x) ys → AreInOrder ys → AreInOrder (put_by (λ y z. is_before (name y) (name z)) x ys)
  put_order x [] differ order = (tt, tt)
  put_order x (y ∷ ys) differ order = by (is_before (name x) (name y)) refl (put_order x ys differ.1 order.1)
    where
      behind : is_before (name x) (name y) ≡ true → (zs : List X) → AllByRecursion (Differ x) zs → AllByRecursion (StandsBefore y) zs → AllByRecursion (StandsBefore x) zs
      behind first [] differ after = tt
      behind first (z ∷ zs) differ after = (
        record { names = before_then (name x) (name y) (name z) first after.0.names; numbers = differ.0.numbers },
        behind first zs differ.1 after.1,
      )

      by : (t : Bool) → is_before (name x) (name y) ≡ t → AreInOrder (put_by (λ y z. is_before (name y) (name z)) x ys)
          → AreInOrder (cond t (x ∷ y ∷ ys) (y ∷ put_by (λ y z. is_before (name y) (name z)) x ys))
      by true is rest = ((record { names = is; numbers = differ.0.numbers }, behind is ys differ.1 order.0), order)
      by false isnt rest = (
        all_put (StandsBefore y) x ys
            (record { names = turns (name x) (name y) isnt differ.0.names; numbers = number_turned (number y) (number x) ∙ differ.0.numbers }) order.0,
        rest,
      )

  all_sorted : (P : X → Type 0) (xs : List X) → AllByRecursion P xs → AllByRecursion P (sorted_by (λ y z. is_before (name y) (name z)) xs)
  all_sorted P [] all = tt
  all_sorted P (x ∷ xs) all = all_put P x (sorted_by (λ y z. is_before (name y) (name z)) xs) all.0 (all_sorted P xs all.1)

  -- what differs is in order once it is sorted
  pub sorted_order : (xs : List X) → AllDiffer xs → AreInOrder (sorted_by (λ y z. is_before (name y) (name z)) xs)
  sorted_order [] differ = tt
  sorted_order (x ∷ xs) differ =
      put_order x (sorted_by (λ y z. is_before (name y) (name z)) xs) (all_sorted (Differ x) xs differ.0) (sorted_order xs differ.1)

  -- and is found by its number as before
  found_put : (n : ℕ) (x : X) (ys : List X) → AllByRecursion (Differ x) ys
      → numbered (put_by (λ y z. is_before (name y) (name z)) x ys) n ≡ cond (number x == n) (Some x) (numbered ys n)
  found_put n x [] differ = refl
  found_put n x (y ∷ ys) differ = by (is_before (name x) (name y)) (found_put n x ys differ.1)
    where
      swap : (t u : Bool) → (number x == n) ≡ t → (number y == n) ≡ u → cond u (Some y) (cond t (Some x) (numbered ys n)) ≡ cond t (Some x) (cond u (Some y) (numbered ys n))
      swap true true p q = absurd (true≢false (sym p ∙ ap (λ k. number x == k) (sym (number_same (number y) n q)) ∙ differ.0.numbers))
      swap true false p q = refl
      swap false u p q = refl

      by : (t : Bool) → numbered (put_by (λ y z. is_before (name y) (name z)) x ys) n ≡ cond (number x == n) (Some x) (numbered ys n)
          → numbered (cond t (x ∷ y ∷ ys) (y ∷ put_by (λ y z. is_before (name y) (name z)) x ys)) n ≡ cond (number x == n) (Some x) (cond (number y == n) (Some y) (numbered ys n))
      by true rest = refl
      by false rest = ap (λ o. cond (number y == n) (Some y) o) rest ∙ swap (number x == n) (number y == n) refl refl

  pub found_sorted : (n : ℕ) (xs : List X) → AllDiffer xs → numbered (sorted_by (λ y z. is_before (name y) (name z)) xs) n ≡ numbered xs n
  found_sorted n [] differ = refl
  found_sorted n (x ∷ xs) differ =
      found_put n x (sorted_by (λ y z. is_before (name y) (name z)) xs) (all_sorted (Differ x) xs differ.0)
      ∙ ap (λ o. cond (number x == n) (Some x) o) (found_sorted n xs differ.1)

  pub order_left : (q : X → Bool) (xs : List X) → AreInOrder xs → AreInOrder (filter q xs)
  order_left q [] order = tt
  order_left q (x ∷ xs) order = by (q x) (order_left q xs order.1)
    where
      by : (t : Bool) → AreInOrder (filter q xs) → AreInOrder (cond t (x ∷ filter q xs) (filter q xs))
      by true rest = (all_left (StandsBefore x) q xs order.0, rest)
      by false rest = rest

  -- the first is found by its number
  pub own_found : (x : X) (xs : List X) → numbered (x ∷ xs) (number x) ≡ Some x
  own_found x xs = ap (λ t. cond t (Some x) (numbered xs (number x))) (own_number (number x))

  -- and none after it
  none_behind : (x : X) (xs : List X) (n : ℕ) → AllByRecursion (StandsBefore x) xs → (number x == n) ≡ true → numbered xs n ≡ None
  none_behind x xs n before is =
      none_found (λ y. number y == n) xs
      (all_so (StandsBefore x) (λ y. (number y == n) ≡ false) xs
      (λ y stands. ap (λ k. number y == k) (sym (number_same (number x) n is)) ∙ number_turned (number y) (number x) ∙ stands.numbers) before)

  some_same : (x y : X) → Some x ≡ Some y → x ≡ y
  some_same x y e = cc e

  -- of two lists that find the same, the first elements are equal
  heads : (x y : X) (xs ys : List X) → AllByRecursion (StandsBefore x) xs → AllByRecursion (StandsBefore y) ys
      → ((n : ℕ) → numbered (x ∷ xs) n ≡ numbered (y ∷ ys) n) → x ≡ y
  heads x y xs ys first second same =
      by (number y == number x) refl (number x == number y) refl (sym (same (number x)) ∙ own_found x xs) (same (number y) ∙ own_found y ys)
    where
      by : (t : Bool) → (number y == number x) ≡ t → (u : Bool) → (number x == number y) ≡ u
          → cond t (Some y) (numbered ys (number x)) ≡ Some x → cond u (Some x) (numbered xs (number y)) ≡ Some y → x ≡ y
      by true at u back e f = sym (some_same y x e)
      by false at true back e f = some_same x y f
      by false at false back e f =
          absurd (false≢true (sym (not_behind (name x) (name y) (all_found (StandsBefore x) (λ z. number z == number y) xs y first f).names)
          ∙ (all_found (StandsBefore y) (λ z. number z == number x) ys x second e).names))

  -- two lists in order that find the same by number are equal
  pub same_lists : (xs ys : List X) → AreInOrder xs → AreInOrder ys → ((n : ℕ) → numbered xs n ≡ numbered ys n) → xs ≡ ys
  same_lists [] [] first second same = refl
  same_lists [] (y ∷ ys) first second same = absurd (cc (same (number y) ∙ own_found y ys))
  same_lists (x ∷ xs) [] first second same = absurd (cc (sym (own_found x xs) ∙ same (number x)))
  same_lists (x ∷ xs) (y ∷ ys) first second same = λ i. head i ∷ same_lists xs ys first.1 second.1 rest i
    where
      head : x ≡ y
      head = heads x y xs ys first.0 second.0 same

      rest : (n : ℕ) → numbered xs n ≡ numbered ys n
      rest n = by (number x == n) refl (same n)
        where
          by : (t : Bool) → (number x == n) ≡ t → cond t (Some x) (numbered xs n) ≡ cond (number y == n) (Some y) (numbered ys n) → numbered xs n ≡ numbered ys n
          by true is e = none_behind x xs n first.0 is ∙ sym (none_behind y ys n second.0 (ap (λ z. number z == n) (sym head) ∙ is))
          by false is e = e ∙ ap (λ t. cond t (Some y) (numbered ys n)) (ap (λ z. number z == n) (sym head) ∙ is)

  -- what is found of those that a filter by numbers leaves
  pub left_found : (p : ℕ → Bool) (n : ℕ) (xs : List X) → numbered (filter (λ x. p (number x)) xs) n ≡ cond (p n) (numbered xs n) None
  left_found p n [] = by (p n)
    where
      by : (t : Bool) → numbered [] n ≡ cond t (numbered [] n) None
      by true = refl
      by false = refl
  left_found p n (x ∷ xs) = by (p (number x)) refl (number x == n) refl (left_found p n xs)
    where
      at : (number x == n) ≡ true → p n ≡ p (number x)
      at is = ap p (sym (number_same (number x) n is))

      by : (t : Bool) → p (number x) ≡ t → (u : Bool) → (number x == n) ≡ u → numbered (filter (λ y. p (number y)) xs) n ≡ cond (p n) (numbered xs n) None
          → numbered (cond t (x ∷ filter (λ y. p (number y)) xs) (filter (λ y. p (number y)) xs)) n ≡ cond (p n) (cond u (Some x) (numbered xs n)) None
      by true kept true is rest =
          ap (λ u. cond u (Some x) (numbered (filter (λ y. p (number y)) xs) n)) is
          ∙ ap (λ t. cond t (Some x) None) (sym (at is ∙ kept))
      by true kept false isnt rest = ap (λ u. cond u (Some x) (numbered (filter (λ y. p (number y)) xs) n)) isnt ∙ rest
      by false gone true is rest = rest ∙ ap (λ t. cond t (numbered xs n) None) (at is ∙ gone) ∙ ap (λ t. cond t (Some x) None) (sym (at is ∙ gone))
      by false gone false isnt rest = rest

  -- whether one has the number or the name of this one
  abbrev pub is_in_place_of : X → X → Bool
  is_in_place_of x y = (number y == number x) || bytes_eq (name y) (name x)

  -- an element put to its place, in place of those of its number or name
  abbrev pub put_in : X → List X → List X
  put_in x xs = put_by (λ y z. is_before (name y) (name z)) x (filter (λ y. not (is_in_place_of x y)) xs)

  put_first : (x : X) (ys : List X) → AllByRecursion (StandsBefore x) ys → put_by (λ y z. is_before (name y) (name z)) x ys ≡ x ∷ ys
  put_first x [] before = refl
  put_first x (y ∷ ys) before = ap (λ t. cond t (x ∷ y ∷ ys) (y ∷ put_by (λ y z. is_before (name y) (name z)) x ys)) before.0.names

  -- an element of a list in order, put among those of the list that a filter by numbers leaves
  pub put_among : (p : ℕ → Bool) (x : X) (ys : List X) → AreInOrder ys → numbered ys (number x) ≡ Some x
      → put_in x (filter (λ y. p (number y)) ys) ≡ filter (λ y. p (number y) || (number y == number x)) ys
  put_among p x [] order is = absurd (cc is)
  put_among p x (y ∷ ys) order is = by (number y == number x) refl is (λ found. put_among p x ys order.1 found)
    where
      left : List X
      left = filter (λ z. p (number z)) ys

      goes : X → Bool
      goes z = not (is_in_place_of x z)

      more : X → Bool
      more z = p (number z) || (number z == number x)

      here : (number y == number x) ≡ true → y ≡ x → put_in x (filter (λ z. p (number z)) (y ∷ ys)) ≡ filter more (y ∷ ys)
      here at same =
          ap (put_by (λ z w. is_before (name z) (name w)) x) (first (p (number y)) ∙ all_pass goes left (all_left (λ z. goes z ≡ true) (λ z. p (number z)) ys kept))
          ∙ put_first x left (all_left (StandsBefore x) (λ z. p (number z)) ys behind)
          ∙ (λ i. sym same i ∷ pass_same (λ z. p (number z)) more ys others i)
          ∙ ap (λ t. cond t (y ∷ filter more ys) (filter more ys)) (sym (ap (λ t. p (number y) || t) at ∙ or-true (p (number y))))
        where
          behind : AllByRecursion (StandsBefore x) ys
          behind = subst (λ z. AllByRecursion (StandsBefore z) ys) same order.0

          kept : AllByRecursion (λ z. goes z ≡ true) ys
          kept = all_so (StandsBefore x) (λ z. goes z ≡ true) ys
              (λ z stands. λ i. not ((number_turned (number z) (number x) ∙ stands.numbers) i || not_same_back (name x) (name z) stands.names i)) behind

          others : AllByRecursion (λ z. p (number z) ≡ more z) ys
          others = all_so (StandsBefore x) (λ z. p (number z) ≡ more z) ys
              (λ z stands. sym (ap (λ t. p (number z) || t) (number_turned (number z) (number x) ∙ stands.numbers) ∙ or-false (p (number z)))) behind

          first : (t : Bool) → filter goes (cond t (y ∷ left) left) ≡ filter goes left
          first true = ap (λ t. cond (not (t || bytes_eq (name y) (name x))) (y ∷ filter goes left) (filter goes left)) at
          first false = refl

      there : (number y == number x) ≡ false → numbered ys (number x) ≡ Some x → put_in x left ≡ filter more ys → put_in x (filter (λ z. p (number z)) (y ∷ ys)) ≡ filter more (y ∷ ys)
      there at found = over (p (number y)) refl
        where
          stands : StandsBefore y x
          stands = all_found (StandsBefore y) (λ z. number z == number x) ys x order.0 found

          kept : goes y ≡ true
          kept = λ i. not (at i || not_same (name y) (name x) stands.names i)

          over : (t : Bool) → p (number y) ≡ t → put_in x left ≡ filter more ys
              → put_in x (cond t (y ∷ left) left) ≡ filter more (y ∷ ys)
          over true is rest =
              ap (λ t. put_by (λ z w. is_before (name z) (name w)) x (cond t (y ∷ filter goes left) (filter goes left))) kept
              ∙ ap (λ t. cond t (x ∷ y ∷ filter goes left) (y ∷ put_in x left)) (not_behind (name y) (name x) stands.names)
              ∙ ap (λ zs. y ∷ zs) rest
              ∙ ap (λ t. cond t (y ∷ filter more ys) (filter more ys)) (sym (ap (λ t. t || (number y == number x)) is))
          over false isnt rest = rest ∙ ap (λ t. cond t (y ∷ filter more ys) (filter more ys)) (sym (λ i. isnt i || at i))

      by : (t : Bool) → (number y == number x) ≡ t → cond t (Some y) (numbered ys (number x)) ≡ Some x
          → (numbered ys (number x) ≡ Some x → put_in x left ≡ filter more ys)
          → put_in x (filter (λ z. p (number z)) (y ∷ ys)) ≡ filter more (y ∷ ys)
      by true at e rest = here at (some_same y x e)
      by false at e rest = there at e (rest e)
