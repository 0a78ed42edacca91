-- Lists in an order: what a sort leaves of sums, tests and filters, and where a further element goes.
use Rattle.std.proofs.Common.{◌≡◌, ℕ, ◌+◌, Bool, true, false, not, ◌||◌, cond, List, [], ◌∷◌, ◌++◌, filter, map, refl, sym, ap, ◌∙◌, arith}
use Rattle.std.specs.List.{list_any, sum_by, AllByRecursion}
use Rattle.std.proofs.lemmas.Bool.{cond_both, cond-true, cond-false, true≢false, false≢true}
use Rattle.std.proofs.lemmas.List.Sums.{sum_by-cons}
use Rattle.ev_model.specs.Sorted.{put_by, sorted_by}

-- the order is total and transitive
pub record IsOrder {X : Type 0} (le : X → X → Bool) : Type 0 where
  pub total : (x y : X) → le x y ≡ false → le y x ≡ true
  pub trans : (x y z : X) → le x y ≡ true → le y z ≡ true → le x z ≡ true

-- no element is after a later one
abbrev pub Rises : {X : Type 0} → (X → X → Bool) → List X → Type 0
Rises le [] = Unit {0}
Rises le (x ∷ xs) = AllByRecursion (λ y. le x y ≡ true) xs × Rises le xs

or_swap : (x y z : Bool) → (y || (x || z)) ≡ (x || (y || z))
or_swap true true z = refl
or_swap true false z = refl
or_swap false y z = refl

turned : {A : Type 0} (b c : Bool) (x y : A) → b ≡ not c → cond b x y ≡ cond c y x
turned true true x y h = absurd (true≢false h)
turned true false x y h = refl
turned false true x y h = refl
turned false false x y h = absurd (false≢true h)

not_so : (b c : Bool) → (b ≡ true → c ≡ true) → c ≡ false → b ≡ false
not_so true c so h = absurd (true≢false (sym (so refl) ∙ h))
not_so false c so h = refl

module _ {X : Type 0} (le : X → X → Bool) where
  -- a test of an element that was put in its place
  pub any_put : (p : X → Bool) (x : X) (ys : List X) → list_any p (put_by le x ys) ≡ (p x || list_any p ys)
  any_put p x [] = refl
  any_put p x (y ∷ ys) =
      cond_both (le x y) (x ∷ y ∷ ys) (y ∷ put_by le x ys) (λ zs. list_any p zs ≡ (p x || (p y || list_any p ys)))
      (λ before. refl)
      (λ behind. ap (λ b. p y || b) (any_put p x ys) ∙ or_swap (p x) (p y) (list_any p ys))

  pub any_sorted : (p : X → Bool) (xs : List X) → list_any p (sorted_by le xs) ≡ list_any p xs
  any_sorted p [] = refl
  any_sorted p (x ∷ xs) = any_put p x (sorted_by le xs) ∙ ap (λ b. p x || b) (any_sorted p xs)

  -- a sum
  pub sum_put : (f : X → ℕ) (x : X) (ys : List X) → sum_by f (put_by le x ys) ≡ f x + sum_by f ys
  sum_put f x [] = sum_by-cons f x []
  sum_put f x (y ∷ ys) =
      cond_both (le x y) (x ∷ y ∷ ys) (y ∷ put_by le x ys) (λ zs. sum_by f zs ≡ f x + sum_by f (y ∷ ys))
      (λ before. sum_by-cons f x (y ∷ ys))
      (λ behind. let rest = sum_put f x ys in let here = sum_by-cons f y (put_by le x ys) in let there = sum_by-cons f y ys in omega (arith, rest, here, there))

  pub sum_sorted : (f : X → ℕ) (xs : List X) → sum_by f (sorted_by le xs) ≡ sum_by f xs
  sum_sorted f [] = refl
  sum_sorted f (x ∷ xs) = sum_put f x (sorted_by le xs) ∙ ap (λ n. f x + n) (sum_sorted f xs) ∙ sym (sum_by-cons f x xs)

  -- what holds of an element and of a list holds once it is put in its place, and of what a filter leaves
  all_put : (P : X → Type 0) (x : X) (ys : List X) → P x → AllByRecursion P ys → AllByRecursion P (put_by le x ys)
  all_put P x [] here all = (here, all)
  all_put P x (y ∷ ys) here all =
      cond_both (le x y) (x ∷ y ∷ ys) (y ∷ put_by le x ys) (AllByRecursion P)
      (λ before. (here, all))
      (λ behind. (all.0, all_put P x ys here all.1))

  all_left : (P : X → Type 0) (q : X → Bool) (ys : List X) → AllByRecursion P ys → AllByRecursion P (filter q ys)
  all_left P q [] all = all
  all_left P q (y ∷ ys) all =
      cond_both (q y) (y ∷ filter q ys) (filter q ys) (AllByRecursion P) (λ kept. (all.0, all_left P q ys all.1)) (λ gone. all_left P q ys all.1)

  all_so : (P Q : X → Type 0) (ys : List X) → ((y : X) → P y → Q y) → AllByRecursion P ys → AllByRecursion Q ys
  all_so P Q [] so all = all
  all_so P Q (y ∷ ys) so all = (so y all.0, all_so P Q ys so all.1)

  -- an element that is before all others goes first
  pub put_first : (x : X) (ys : List X) → AllByRecursion (λ y. le x y ≡ true) ys → put_by le x ys ≡ x ∷ ys
  put_first x [] all = refl
  put_first x (y ∷ ys) all = cond-true (le x y) (x ∷ y ∷ ys) (y ∷ put_by le x ys) all.0

  -- a change of each element that keeps the order may be made before a sort or after it
  map_put : (f : X → X) → ((x y : X) → le (f x) (f y) ≡ le x y) → (x : X) (ys : List X) → map f (put_by le x ys) ≡ put_by le (f x) (map f ys)
  map_put f keeps x [] = refl
  map_put f keeps x (y ∷ ys) =
      cond_both (le x y) (x ∷ y ∷ ys) (y ∷ put_by le x ys) (λ zs. map f zs ≡ cond (le (f x) (f y)) (f x ∷ f y ∷ map f ys) (f y ∷ put_by le (f x) (map f ys)))
      (λ before. sym (cond-true (le (f x) (f y)) (f x ∷ f y ∷ map f ys) (f y ∷ put_by le (f x) (map f ys)) (keeps x y ∙ before)))
      (λ behind. ap (λ zs. f y ∷ zs) (map_put f keeps x ys)
      ∙ sym (cond-false (le (f x) (f y)) (f x ∷ f y ∷ map f ys) (f y ∷ put_by le (f x) (map f ys)) (keeps x y ∙ behind)))

  pub sorted_map : (f : X → X) → ((x y : X) → le (f x) (f y) ≡ le x y) → (xs : List X) → sorted_by le (map f xs) ≡ map f (sorted_by le xs)
  sorted_map f keeps [] = refl
  sorted_map f keeps (x ∷ xs) = ap (put_by le (f x)) (sorted_map f keeps xs) ∙ sym (map_put f keeps x (sorted_by le xs))

  module _ (o : IsOrder le) where
    put_rises : (x : X) (ys : List X) → Rises le ys → Rises le (put_by le x ys)
    put_rises x [] rises = (tt, tt)
    put_rises x (y ∷ ys) rises =
        cond_both (le x y) (x ∷ y ∷ ys) (y ∷ put_by le x ys) (Rises le)
        (λ before. ((before, all_so (λ z. le y z ≡ true) (λ z. le x z ≡ true) ys (λ z after. o.trans x y z before after) rises.0), rises))
        (λ behind. (all_put (λ z. le y z ≡ true) x ys (o.total x y behind) rises.0, put_rises x ys rises.1))

    pub sorted_rises : (xs : List X) → Rises le (sorted_by le xs)
    sorted_rises [] = tt
    sorted_rises (x ∷ xs) = put_rises x (sorted_by le xs) (sorted_rises xs)

    -- a filter leaves of a put element what it leaves of the others, and the element where it passes
    filter_put : (q : X → Bool) (x : X) (ys : List X) → Rises le ys → filter q (put_by le x ys) ≡ cond (q x) (put_by le x (filter q ys)) (filter q ys)
    filter_put q x [] rises = refl
    filter_put q x (y ∷ ys) rises =
        cond_both (le x y) (x ∷ y ∷ ys) (y ∷ put_by le x ys)
        (λ zs. filter q zs ≡ cond (q x) (put_by le x (filter q (y ∷ ys))) (filter q (y ∷ ys)))
        (λ before.
        let after : AllByRecursion (λ z. le x z ≡ true) (y ∷ ys) = (before, all_so (λ z. le y z ≡ true) (λ z. le x z ≡ true) ys (λ z later. o.trans x y z before later) rises.0) in
        ap (λ zs. cond (q x) zs (filter q (y ∷ ys))) (sym (put_first x (filter q (y ∷ ys)) (all_left (λ z. le x z ≡ true) q (y ∷ ys) after))))
        (λ behind. passing (q y) (q x) (filter q (put_by le x ys)) behind (filter_put q x ys rises.1))
      where
        passing : (here there : Bool) (left : List X) → le x y ≡ false → left ≡ cond there (put_by le x (filter q ys)) (filter q ys)
            → cond here (y ∷ left) left ≡ cond there (put_by le x (cond here (y ∷ filter q ys) (filter q ys))) (cond here (y ∷ filter q ys) (filter q ys))
        passing true true left behind is = ap (λ zs. y ∷ zs) is ∙ sym (cond-false (le x y) (x ∷ y ∷ filter q ys) (y ∷ put_by le x (filter q ys)) behind)
        passing true false left behind is = ap (λ zs. y ∷ zs) is
        passing false true left behind is = is
        passing false false left behind is = is

    -- a filter leaves the same before and after a sort
    pub filter_sorted : (q : X → Bool) (xs : List X) → filter q (sorted_by le xs) ≡ sorted_by le (filter q xs)
    filter_sorted q [] = refl
    filter_sorted q (x ∷ xs) =
        filter_put q x (sorted_by le xs) (sorted_rises xs) ∙ passing (q x) (filter q (sorted_by le xs)) (filter_sorted q xs)
      where
        passing : (here : Bool) (left : List X) → left ≡ sorted_by le (filter q xs)
            → cond here (put_by le x left) left ≡ sorted_by le (cond here (x ∷ filter q xs) (filter q xs))
        passing true left is = ap (put_by le x) is
        passing false left is = is

    -- two elements, one of which is before the other, may be put in either order
    pub put_put : (a b : X) → le a b ≡ not (le b a) → (zs : List X) → put_by le a (put_by le b zs) ≡ put_by le b (put_by le a zs)
    put_put a b apart [] = turned (le a b) (le b a) (a ∷ b ∷ []) (b ∷ a ∷ []) apart
    put_put a b apart (z ∷ zs) = by (le a z) (le b z) refl refl (put_put a b apart zs)
      where
        by : (t u : Bool) → le a z ≡ t → le b z ≡ u → put_by le a (put_by le b zs) ≡ put_by le b (put_by le a zs) → put_by le a (put_by le b (z ∷ zs)) ≡ put_by le b (put_by le a (z ∷ zs))
        by true true first second rest =
            ap (put_by le a) (cond-true (le b z) (b ∷ z ∷ zs) (z ∷ put_by le b zs) second)
            ∙ ap (cond (le a b) (a ∷ b ∷ z ∷ zs)) (ap (λ ys. b ∷ ys) (cond-true (le a z) (a ∷ z ∷ zs) (z ∷ put_by le a zs) first))
            ∙ turned (le a b) (le b a) (a ∷ b ∷ z ∷ zs) (b ∷ a ∷ z ∷ zs) apart
            ∙ ap (cond (le b a) (b ∷ a ∷ z ∷ zs)) (ap (λ ys. a ∷ ys) (sym (cond-true (le b z) (b ∷ z ∷ zs) (z ∷ put_by le b zs) second)))
            ∙ ap (put_by le b) (sym (cond-true (le a z) (a ∷ z ∷ zs) (z ∷ put_by le a zs) first))
        by true false first second rest =
            let behind : le b a ≡ false = not_so (le b a) (le b z) (λ h. o.trans b a z h first) second in
            ap (put_by le a) (cond-false (le b z) (b ∷ z ∷ zs) (z ∷ put_by le b zs) second)
            ∙ cond-true (le a z) (a ∷ z ∷ put_by le b zs) (z ∷ put_by le a (put_by le b zs)) first
            ∙ ap (λ ys. a ∷ ys) (sym (cond-false (le b z) (b ∷ z ∷ zs) (z ∷ put_by le b zs) second))
            ∙ sym (cond-false (le b a) (b ∷ a ∷ z ∷ zs) (a ∷ put_by le b (z ∷ zs)) behind)
            ∙ ap (put_by le b) (sym (cond-true (le a z) (a ∷ z ∷ zs) (z ∷ put_by le a zs) first))
        by false true first second rest =
            let behind : le a b ≡ false = not_so (le a b) (le a z) (λ h. o.trans a b z h second) first in
            ap (put_by le a) (cond-true (le b z) (b ∷ z ∷ zs) (z ∷ put_by le b zs) second)
            ∙ cond-false (le a b) (a ∷ b ∷ z ∷ zs) (b ∷ put_by le a (z ∷ zs)) behind
            ∙ ap (λ ys. b ∷ ys) (cond-false (le a z) (a ∷ z ∷ zs) (z ∷ put_by le a zs) first)
            ∙ sym (cond-true (le b z) (b ∷ z ∷ put_by le a zs) (z ∷ put_by le b (put_by le a zs)) second)
            ∙ ap (put_by le b) (sym (cond-false (le a z) (a ∷ z ∷ zs) (z ∷ put_by le a zs) first))
        by false false first second rest =
            ap (put_by le a) (cond-false (le b z) (b ∷ z ∷ zs) (z ∷ put_by le b zs) second)
            ∙ cond-false (le a z) (a ∷ z ∷ put_by le b zs) (z ∷ put_by le a (put_by le b zs)) first
            ∙ ap (λ ys. z ∷ ys) rest
            ∙ sym (cond-false (le b z) (b ∷ z ∷ put_by le a zs) (z ∷ put_by le b (put_by le a zs)) second)
            ∙ ap (put_by le b) (sym (cond-false (le a z) (a ∷ z ∷ zs) (z ∷ put_by le a zs) first))

    -- a further element goes to its place in the sorted list
    pub sorted_push : (m : X) (xs : List X) → AllByRecursion (λ x. le x m ≡ not (le m x)) xs → sorted_by le (xs ++ m ∷ []) ≡ put_by le m (sorted_by le xs)
    sorted_push m [] all = refl
    sorted_push m (x ∷ xs) all = ap (put_by le x) (sorted_push m xs all.1) ∙ put_put x m all.0 (sorted_by le xs)
