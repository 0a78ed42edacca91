-- The order by worker and number.
use Rattle.std.proofs.Common.{◌≡◌, ℕ, Bool, true, false, not, ◌&&◌, ◌||◌, ◌==◌, cond, List, [], ◌∷◌, ◌++◌, filter, Option, None, Some, refl, sym, ap, ◌∙◌, arith}
use Rattle.std.specs.List.{find, list_any, AllByRecursion}
use Rattle.std.specs.List.Sorted.{IsStrictlySortedBy}
use Rattle.std.specs.Option.{option_map}
use Rattle.std.specs.Ordering.{ordering_then, ordering_reverse, nat_cmp, is_le, is_eq}
use Rattle.std.specs.declared.cmp.Ordering.{Ordering}
use Rattle.std.specs.declared.cmp.Ordering.TheVariants.{Less, Equal, Greater}
use Rattle.std.specs.Cmp.{IsTotalOrder}
use Rattle.std.proofs.lemmas.Bool.{or_parts}
use Rattle.std.proofs.lemmas.Bool.Decides.{nat_tests}
use Rattle.std.proofs.lemmas.Cmp.{nat_cmp_total, then_total, on_total}
use Rattle.ev_model.specs.World.{OpenMember}
use Rattle.ev_model.specs.Connections.{is_member, is_open, closed}
use Rattle.ev_model.specs.Sorted.{put_by}
use Rattle.ev_ledger.specs.Members.{AreApart, AreInOrder, place_order, member_before, member_on, moved_to, on_in, on_listener, on_of, in_order, count_of, HasOpened}
use Rattle.ev_model.specs.Dead.{is_open_on}
use Rattle.ev_ledger.specs.declared.open_on.On.{On}
use Rattle.std.proofs.lemmas.List.Sums.{length-filter}
use Rattle.ev_ledger.proofs.OrderLemmas.{IsOrder, put_first, sorted_push, sum_sorted, any_sorted, filter_sorted}

pub place_order_total : IsTotalOrder place_order
place_order_total = then_total (on_total (λ (m : OpenMember). m.worker) nat_cmp_total) (on_total (λ (m : OpenMember). m.connection) nat_cmp_total)

-- a total order as a test
module _ {X : Type 0} (R : X → X → Ordering) (o : IsTotalOrder R) where
  le_total : (r s : Ordering) → r ≡ ordering_reverse s → is_le r ≡ false → is_le s ≡ true
  le_total Less s is h = grind arith
  le_total Equal s is h = grind arith
  le_total Greater Less is h = refl
  le_total Greater Equal is h = refl
  le_total Greater Greater is h = grind arith

  le_trans : (x y z : X) → is_le (R x y) ≡ true → is_le (R y z) ≡ true → is_le (R x z) ≡ true
  le_trans x y z first second = by (R x y) (R y z) refl refl first second
    where
      by : (r s : Ordering) → R x y ≡ r → R y z ≡ s → is_le r ≡ true → is_le s ≡ true → is_le (R x z) ≡ true
      by Less Less a b f s = ap is_le (o.trans x y z a b)
      by Less Equal a b f s =
          let turned : R z y ≡ Equal = o.antisymm z y ∙ ap ordering_reverse b in
          let last : R z x ≡ R y x = o.congr z y x turned in
          let back : R y x ≡ Greater = o.antisymm y x ∙ ap ordering_reverse a in
          ap is_le (o.antisymm x z ∙ ap ordering_reverse (last ∙ back))
      by Less Greater a b f s = grind arith
      by Equal s' a b f s = ap is_le (o.congr x y z a ∙ b) ∙ s
      by Greater s' a b f s = grind arith

  pub le_order : IsOrder (λ x y. is_le (R x y))
  le_order = record { total = λ x y h. le_total (R x y) (R y x) (o.antisymm x y) h; trans = le_trans }

pub place_order_orders : IsOrder member_before
place_order_orders = le_order place_order place_order_total

-- an entry's key is found exactly at the worker and number of its connection
pub same_place : (w c a b : ℕ) → is_eq (ordering_then (nat_cmp w a) (nat_cmp c b)) ≡ ((a == w) && (b == c))
same_place w c a b = grind (arith, nat_tests)

apart_numbers : (w c a b : ℕ) → ((a == w) && (b == c)) ≡ false
    → is_le (ordering_then (nat_cmp a w) (nat_cmp b c)) ≡ not (is_le (ordering_then (nat_cmp w a) (nat_cmp c b)))
apart_numbers w c a b h = grind (arith, nat_tests)

-- a connection that isn't open is apart from each that is
apart_each : (w c : ℕ) (on : On) (xs : List OpenMember) → is_open xs w c ≡ false
    → AllByRecursion (λ x. member_before x (member_on w c on) ≡ not (member_before (member_on w c on) x)) xs
apart_each w c on [] h = tt
apart_each w c on (x ∷ xs) h =
    let parts = or_parts (is_member w c x) (list_any (is_member w c) xs) h in
    (apart_numbers w c x.worker x.connection parts.0, apart_each w c on xs parts.1)

-- one more connection, put in its place
pub in_order_push : (w c : ℕ) (on : On) (xs : List OpenMember) → is_open xs w c ≡ false
    → in_order (xs ++ member_on w c on ∷ []) ≡ in_order (member_on w c on ∷ xs)
in_order_push w c on xs h = sorted_push member_before place_order_orders (member_on w c on) xs (apart_each w c on xs h)

-- counts, tests and filters are the same in order
pub count_in_order : (number : ℕ) (xs : List OpenMember) → count_of number (in_order xs) ≡ count_of number xs
count_in_order number xs =
    length-filter (is_open_on number) (in_order xs) ∙ sum_sorted member_before (λ m. cond (is_open_on number m) 1 0) xs ∙ sym (length-filter (is_open_on number) xs)

pub open_in_order : (w c : ℕ) (xs : List OpenMember) → is_open (in_order xs) w c ≡ is_open xs w c
open_in_order w c xs = any_sorted member_before (is_member w c) xs

pub filter_in_order : (q : OpenMember → Bool) (xs : List OpenMember) → filter q (in_order xs) ≡ in_order (filter q xs)
filter_in_order q xs = filter_sorted member_before place_order_orders q xs

-- closing leaves the connections that aren't the closed one
none_closed : (w c : ℕ) (xs : List OpenMember) → is_open xs w c ≡ false → xs ≡ filter (λ m. not (is_member w c m)) xs
none_closed w c [] h = refl
none_closed w c (x ∷ xs) h =
    let parts = or_parts (is_member w c x) (list_any (is_member w c) xs) h in
    ap (λ ys. x ∷ ys) (none_closed w c xs parts.1)
    ∙ sym (ap (λ t. cond (not t) (x ∷ filter (λ m. not (is_member w c m)) xs) (filter (λ m. not (is_member w c m)) xs)) parts.0)

pub closed_leaves : (w c : ℕ) (xs : List OpenMember) → (closed c w xs).opened ≡ filter (λ m. not (is_member w c m)) xs
closed_leaves w c xs = by (is_open xs w c) refl
  where
    by : (t : Bool) → is_open xs w c ≡ t → (closed c w xs).opened ≡ filter (λ m. not (is_member w c m)) xs
    by true h = rw h
    by false h = rw h (none_closed w c xs h)

-- and nothing is open there any more
none_left : (w c : ℕ) (xs : List OpenMember) → is_open (filter (λ m. not (is_member w c m)) xs) w c ≡ false
none_left w c [] = refl
none_left w c (x ∷ xs) = by (is_member w c x) refl (none_left w c xs)
  where
    by : (t : Bool) → is_member w c x ≡ t → is_open (filter (λ m. not (is_member w c m)) xs) w c ≡ false
        → is_open (cond (not t) (x ∷ filter (λ m. not (is_member w c m)) xs) (filter (λ m. not (is_member w c m)) xs)) w c ≡ false
    by true h rest = rest
    by false h rest = ap (λ t. t || is_open (filter (λ m. not (is_member w c m)) xs) w c) h ∙ rest

pub closed_gone : (w c : ℕ) (xs : List OpenMember) → is_open (closed c w xs).opened w c ≡ false
closed_gone w c xs = ap (λ ms. is_open ms w c) (closed_leaves w c xs) ∙ none_left w c xs

-- what a call of the ledger does, the machine does
pub close_stands : (w c : ℕ) (ledger opened : List OpenMember) → HasOpened ledger opened → HasOpened (closed c w ledger).opened (closed c w opened).opened
close_stands w c ledger opened stands =
    closed_leaves w c ledger ∙ ap (filter (λ m. not (is_member w c m))) stands ∙ filter_in_order (λ m. not (is_member w c m)) opened
    ∙ ap in_order (sym (closed_leaves w c opened))

pub open_stands : (w c : ℕ) (on : On) (ledger opened : List OpenMember) → is_open ledger w c ≡ false → HasOpened ledger opened
    → HasOpened (put_by member_before (member_on w c on) ledger) (opened ++ member_on w c on ∷ [])
open_stands w c on ledger opened apart stands =
    ap (put_by member_before (member_on w c on)) stands
    ∙ sym (in_order_push w c on opened (sym (ap (λ ms. is_open ms w c) stands ∙ open_in_order w c opened) ∙ apart))

pub answer_stands : (w c : ℕ) (ledger opened : List OpenMember) → HasOpened ledger opened → is_open ledger w c ≡ is_open opened w c
answer_stands w c ledger opened stands = ap (λ ms. is_open ms w c) stands ∙ open_in_order w c opened

-- what is found passes the test
find_passes : {X : Type 0} (p : X → Bool) (xs : List X) (y : X) → find p xs ≡ Some y → p y ≡ true
find_passes p [] y is = absurd (cc is)
find_passes p (x ∷ xs) y is = by (p x) refl is (find_passes p xs y)
  where
    by : (t : Bool) → p x ≡ t → cond t (Some x) (find p xs) ≡ Some y → (find p xs ≡ Some y → p y ≡ true) → p y ≡ true
    by true at is rest = let same : x ≡ y = cc is in ap p (sym same) ∙ at
    by false at is rest = rest is

-- A connection that moves keeps its place in the order.
module _ (w c l : ℕ) where
  -- where the connection isn't open, none moves
  none_moved : (xs : List OpenMember) → is_open xs w c ≡ false → moved_to w c l xs ≡ xs
  none_moved [] h = refl
  none_moved (x ∷ xs) h =
      let parts = or_parts (is_member w c x) (list_any (is_member w c) xs) h in
      ap (λ t. cond t (on_listener l x) x ∷ moved_to w c l xs) parts.0 ∙ ap (λ ys. x ∷ ys) (none_moved xs parts.1)

  found_later : (x m : OpenMember) (xs : List OpenMember) → AllByRecursion (λ y. place_order x y ≡ Less) xs → find (is_member w c) xs ≡ Some m
      → place_order x m ≡ Less
  found_later x m [] all is = absurd (cc is)
  found_later x m (y ∷ ys) all is = by (is_member w c y) is (found_later x m ys all.1)
    where
      by : (t : Bool) → cond t (Some y) (find (is_member w c) ys) ≡ Some m → (find (is_member w c) ys ≡ Some m → place_order x m ≡ Less) → place_order x m ≡ Less
      by true is rest = let same : y ≡ m = cc is in ap (place_order x) (sym same) ∙ all.0
      by false is rest = rest is

  before_all : (x : OpenMember) (xs : List OpenMember) → AllByRecursion (λ y. place_order x y ≡ Less) xs → AllByRecursion (λ y. member_before x y ≡ true) xs
  before_all x [] all = tt
  before_all x (y ∷ ys) all = (ap is_le all.0, before_all x ys all.1)

  same_member : (m : OpenMember) → is_member w c m ≡ true → ◌≡◌ {A = ℕ × ℕ} (m.worker, m.connection) (w, c)
  same_member m h = let one : m.worker ≡ w = grind (arith, nat_tests) in let two : m.connection ≡ c = grind (arith, nat_tests) in cc

  -- closed and opened again on another listener, the connection has the place that it had
  pub moved_place : (m : OpenMember) (xs : List OpenMember) → AreInOrder xs → AreApart xs → find (is_member w c) xs ≡ Some m
      → put_by member_before (on_listener l m) (filter (λ m. not (is_member w c m)) xs) ≡ moved_to w c l xs
  unfolding IsStrictlySortedBy
  moved_place m [] ordered apart is = absurd (cc is)
  moved_place m (x ∷ xs) ordered apart is = by (is_member w c x) refl is (moved_place m xs ordered.1 apart.1)
    where
      by : (t : Bool) → is_member w c x ≡ t → cond t (Some x) (find (is_member w c) xs) ≡ Some m
          → (find (is_member w c) xs ≡ Some m → put_by member_before (on_listener l m) (filter (λ m. not (is_member w c m)) xs) ≡ moved_to w c l xs)
          → put_by member_before (on_listener l m) (cond (not t) (x ∷ filter (λ m. not (is_member w c m)) xs) (filter (λ m. not (is_member w c m)) xs))
          ≡ cond t (on_listener l x) x ∷ moved_to w c l xs
      by true at is rest =
          let same : x ≡ m = cc is in
          let none : is_open xs w c ≡ false = ap (λ p. is_open xs p.0 p.1) (sym (same_member x at)) ∙ apart.0 in
          ap (λ y. put_by member_before (on_listener l y) (filter (λ m. not (is_member w c m)) xs)) (sym same)
          ∙ ap (put_by member_before (on_listener l x)) (sym (none_closed w c xs none))
          ∙ put_first member_before (on_listener l x) xs (before_all x xs ordered.0)
          ∙ ap (λ ys. on_listener l x ∷ ys) (sym (none_moved xs none))
      by false at is rest =
          let later : place_order x m ≡ Less = found_later x m xs ordered.0 is in
          let turned : member_before m x ≡ false = ap is_le (place_order_total.antisymm m x ∙ ap ordering_reverse later) in
          ap (λ b. cond b (on_listener l m ∷ x ∷ filter (λ m. not (is_member w c m)) xs) (x ∷ put_by member_before (on_listener l m) (filter (λ m. not (is_member w c m)) xs))) turned
          ∙ ap (λ ys. x ∷ ys) (rest is)

  -- so it is where what it was open on is known
  pub moved_by : (on : On) (xs : List OpenMember) → AreInOrder xs → AreApart xs → on_in w c xs ≡ Some on
      → put_by member_before (member_on w c (record on { listener = l })) (filter (λ m. not (is_member w c m)) xs) ≡ moved_to w c l xs
  moved_by on xs ordered apart is = by (find (is_member w c) xs) refl is
    where
      by : (found : Option OpenMember) → find (is_member w c) xs ≡ found → option_map on_of found ≡ Some on
          → put_by member_before (member_on w c (record on { listener = l })) (filter (λ m. not (is_member w c m)) xs) ≡ moved_to w c l xs
      by None there is = absurd (cc is)
      by (Some m) there is =
          let on_is : on_of m ≡ on = cc is in
          let place = same_member m (find_passes (is_member w c) xs m there) in
          let one : m.worker ≡ w = ap (λ (p : ℕ × ℕ). p.0) place in
          let two : m.connection ≡ c = ap (λ (p : ℕ × ℕ). p.1) place in
          ap (λ o. put_by member_before (member_on w c (record o { listener = l })) (filter (λ m. not (is_member w c m)) xs)) (sym on_is)
          ∙ ap (λ v. put_by member_before (member_on v c (record (on_of m) { listener = l })) (filter (λ m. not (is_member w c m)) xs)) (sym one)
          ∙ ap (λ v. put_by member_before (member_on m.worker v (record (on_of m) { listener = l })) (filter (λ m. not (is_member w c m)) xs)) (sym two)
          ∙ moved_place m xs ordered apart there
