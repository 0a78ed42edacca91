-- The group of what passes a test, when one element goes out or comes in.
use Rattle.std.proofs.Common.{◌≡◌, ◌∙◌, ℕ, ◌+◌, ◌==◌, ◌&&◌, not, Bool, true, false, cond, List, [], ◌∷◌, ◌++◌, filter, find, position, slice_get, insert, length, nat_lt, suc, arith, Some, None, refl, sym, ap, true≢false}
use Rattle.std.specs.List.{AllByRecursion, position_or_len}
use Rattle.ev_types.specs.Same.{numbers_decide}
use Rattle.ev_types.specs.SameHosts.{host_decides, host_same}
use Rattle.ev_types.specs.declared.hosts.Host.{Host}
use Rattle.ev_model.specs.Choice.{listener_at, streams}
use Rattle.ev_model.specs.Sorted.{put_by}
use Rattle.ev_model.specs.Versions.{is_before}
use Rattle.ev_model.specs.declared.pictures.ServedListener.{ServedListener}
use Rattle.ev_layers.specs.Rows.{IsInOrder, IsPairwise, numbered, put_before, without_number}
use Rattle.ev_layers.proofs.Order.{before_then, every_kept, every_so, found_passes}
use Rattle.ev_listeners.specs.Groups.{those_at}

-- the first of a group is what a search finds
pub first_found : {X : Type 0} (p : X → Bool) (xs : List X) → slice_get (filter p xs) 0 ≡ find p xs
first_found p [] = refl
first_found p (x ∷ xs) = by (p x) (first_found p xs)
  where
    by : (b : Bool) → slice_get (filter p xs) 0 ≡ find p xs → slice_get (cond b (x ∷ filter p xs) (filter p xs)) 0 ≡ cond b (Some x) (find p xs)
    by true rest = refl
    by false rest = rest

-- two filters in either order
pub filters_turn : {X : Type 0} (p q : X → Bool) (xs : List X) → filter p (filter q xs) ≡ filter q (filter p xs)
filters_turn p q [] = refl
filters_turn p q (x ∷ xs) = by (p x) (q x) refl refl (filters_turn p q xs)
  where
    by : (a b : Bool) → p x ≡ a → q x ≡ b → filter p (filter q xs) ≡ filter q (filter p xs)
        → filter p (cond b (x ∷ filter q xs) (filter q xs)) ≡ filter q (cond a (x ∷ filter p xs) (filter p xs))
    by true true e f rest = (λ i. cond (e i) (x ∷ filter p (filter q xs)) (filter p (filter q xs))) ∙ ap (λ ys. x ∷ ys) rest ∙ (λ i. cond (sym f i) (x ∷ filter q (filter p xs)) (filter q (filter p xs)))
    by true false e f rest = rest ∙ (λ i. cond (sym f i) (x ∷ filter q (filter p xs)) (filter q (filter p xs)))
    by false true e f rest = (λ i. cond (e i) (x ∷ filter p (filter q xs)) (filter p (filter q xs))) ∙ rest
    by false false e f rest = rest

-- a filter by two tests is two filters
pub filter_both : {X : Type 0} (p q : X → Bool) (xs : List X) → filter (λ x. p x && q x) xs ≡ filter q (filter p xs)
filter_both p q [] = refl
filter_both {X} p q (x ∷ xs) = by (p x) (q x) refl (filter_both p q xs)
  where
    by : (a b : Bool) → q x ≡ b → filter (λ y. p y && q y) xs ≡ filter q (filter p xs)
        → cond (a && b) (x ∷ filter (λ y. p y && q y) xs) (filter (λ y. p y && q y) xs) ≡ filter q (cond a (x ∷ filter p xs) (filter p xs))
    by true true is rest = ap (λ ys. x ∷ ys) rest ∙ (λ i. cond (sym is i) (x ∷ filter q (filter p xs)) (filter q (filter p xs)))
    by true false is rest = rest ∙ (λ i. cond (sym is i) (x ∷ filter q (filter p xs)) (filter q (filter p xs)))
    by false b is rest = rest

-- those at an address, by the listeners that connections reach
pub those_streams : (address : Host) (listeners : List ServedListener)
    → those_at address listeners ≡ filter (λ (l : ServedListener). host_same l.address address) (streams listeners)
those_streams address listeners =
    filter_both (λ (l : ServedListener). not l.udp) (λ (l : ServedListener). host_same l.address address) listeners

-- the first of a group is the first at the group's address
pub group_first : (address : Host) (listeners : List ServedListener) → slice_get (those_at address listeners) 0 ≡ listener_at (streams listeners) address
group_first address listeners =
    ap (λ ls. slice_get ls 0) (those_streams address listeners)
    ∙ first_found (λ (l : ServedListener). host_same l.address address) (streams listeners)

-- the first of a group that takes every address is the first at the group's address of those that do
pub every_found : (address : Host) (listeners : List ServedListener)
    → find (λ (l : ServedListener). l.takes_every_address) (those_at address listeners)
    ≡ listener_at (filter (λ (l : ServedListener). l.takes_every_address) (streams listeners)) address
every_found address listeners =
    let every : ServedListener → Bool = λ l. l.takes_every_address in
    let here : ServedListener → Bool = λ l. host_same l.address address in
    ap (find every) (those_streams address listeners)
    ∙ sym (first_found every (filter here (streams listeners)))
    ∙ ap (λ ls. slice_get ls 0) (filters_turn every here (streams listeners))
    ∙ first_found here (filter every (streams listeners))

-- a filter doesn't see that what fails it goes
pub filter_blind : {X : Type 0} (p q : X → Bool) (xs : List X) → AllByRecursion (λ x. q x ≡ false → p x ≡ false) xs → filter p (filter q xs) ≡ filter p xs
filter_blind p q [] all = refl
filter_blind p q (x ∷ xs) all = by (p x) (q x) refl refl (filter_blind p q xs all.1)
  where
    by : (a b : Bool) → p x ≡ a → q x ≡ b → filter p (filter q xs) ≡ filter p xs → filter p (cond b (x ∷ filter q xs) (filter q xs)) ≡ cond a (x ∷ filter p xs) (filter p xs)
    by a true e f rest = (λ i. cond (e i) (x ∷ filter p (filter q xs)) (filter p (filter q xs))) ∙ ap (λ ys. cond a (x ∷ ys) ys) rest
    by true false e f rest = absurd (true≢false (sym e ∙ all.0 f))
    by false false e f rest = rest

-- nor that what fails it comes
pub put_blind : {X : Type 0} (p : X → Bool) (b : X → X → Bool) (x : X) (ys : List X) → p x ≡ false → filter p (put_by b x ys) ≡ filter p ys
put_blind p b x [] e = λ i. cond (e i) (x ∷ []) []
put_blind p b x (y ∷ ys) e = by (b x y) (put_blind p b x ys e)
  where
    by : (t : Bool) → filter p (put_by b x ys) ≡ filter p ys → filter p (cond t (x ∷ y ∷ ys) (y ∷ put_by b x ys)) ≡ filter p (y ∷ ys)
    by true rest = λ i. cond (e i) (x ∷ filter p (y ∷ ys)) (filter p (y ∷ ys))
    by false rest = λ i. cond (p y) (y ∷ rest i) (rest i)

-- what goes by its number is one element
pub only_one : {X : Type 0} (number : X → ℕ) (n : ℕ) (xs : List X) (c : X) → IsPairwise (λ a b. not (number a == number b)) xs → numbered number xs n ≡ Some c
    → AllByRecursion (λ x. not (number x == n) ≡ false → x ≡ c) xs
only_one number n [] c s e = tt
only_one number n (x ∷ xs) c s e = by (number x == n) refl e (only_one number n xs c s.1)
  where
    negated : (b : Bool) → not b ≡ false → b ≡ true
    negated true h = refl
    negated false h = absurd (true≢false h)

    by : (b : Bool) → (number x == n) ≡ b → cond b (Some x) (numbered number xs n) ≡ Some c
        → (numbered number xs n ≡ Some c → AllByRecursion (λ y. not (number y == n) ≡ false → y ≡ c) xs)
        → AllByRecursion (λ y. not (number y == n) ≡ false → y ≡ c) (x ∷ xs)
    by true f h rest =
        let one : x ≡ c = cc in (
          (λ g. one),
          every_so (λ y. not (number x == number y) ≡ true) (λ y. not (number y == n) ≡ false → y ≡ c) xs
              (λ y far g. absurd (true≢false (sym far ∙ ap not ((numbers_decide (number x) (number y)).1
              ((numbers_decide (number x) n).0 f ∙ sym ((numbers_decide (number y) n).0 (negated (number y == n) g))))))) s.0,
        )
    by false f h rest = ((λ g. absurd (true≢false (sym (negated (number x == n) g) ∙ f))), rest h)

module _ {X : Type 0} (name : X → List ℕ) (p : X → Bool) where
  first_put : (x : X) (zs : List X) → AllByRecursion (λ z. is_before (name x) (name z) ≡ true) zs → put_before name x zs ≡ x ∷ zs
  first_put x [] all = refl
  first_put x (z ∷ zs) all = λ i. cond (all.0 i) (x ∷ z ∷ zs) (z ∷ put_before name x zs)

  -- what passes comes into the group as into the list
  pub put_seen : (x : X) (ys : List X) → IsPairwise (λ a b. is_before (name a) (name b)) ys → p x ≡ true
      → put_before name x (filter p ys) ≡ filter p (put_before name x ys)
  put_seen x [] s e = λ i. cond (sym e i) (x ∷ []) []
  put_seen x (y ∷ ys) s e = by (is_before (name x) (name y)) (p y) refl refl (put_seen x ys s.1 e)
    where
      by : (t a : Bool) → is_before (name x) (name y) ≡ t → p y ≡ a → put_before name x (filter p ys) ≡ filter p (put_before name x ys)
          → put_before name x (cond a (y ∷ filter p ys) (filter p ys)) ≡ filter p (cond t (x ∷ y ∷ ys) (y ∷ put_before name x ys))
      by true a f g rest =
          let behind : AllByRecursion (λ z. is_before (name x) (name z) ≡ true) (y ∷ ys) =
          (f, every_so (λ z. is_before (name y) (name z) ≡ true) (λ z. is_before (name x) (name z) ≡ true) ys (λ z h. before_then (name x) (name y) (name z) f h) s.0) in
          (λ i. put_before name x (cond (sym g i) (y ∷ filter p ys) (filter p ys)))
          ∙ first_put x (filter p (y ∷ ys)) (every_kept (λ z. is_before (name x) (name z) ≡ true) p (y ∷ ys) behind)
          ∙ (λ i. cond (sym e i) (x ∷ filter p (y ∷ ys)) (filter p (y ∷ ys)))
      by false true f g rest =
          (λ i. cond (f i) (x ∷ y ∷ filter p ys) (y ∷ put_before name x (filter p ys))) ∙ ap (λ zs. y ∷ zs) rest ∙ (λ i. cond (sym g i) (y ∷ filter p (put_before name x ys)) (filter p (put_before name x ys)))
      by false false f g rest = rest ∙ (λ i. cond (sym g i) (y ∷ filter p (put_before name x ys)) (filter p (put_before name x ys)))

one_more : (n : ℕ) → 1 + n ≡ suc n
one_more n = omega arith

-- an element goes to the place of the first that it may precede, or else to the end
pub put_place : {X : Type 0} (b : X → X → Bool) (x : X) (ys : List X) → insert ys (position_or_len (b x) ys) x ≡ put_by b x ys
put_place b x [] = refl
put_place b x (y ∷ ys) = by (b x y) (put_place b x ys)
  where
    by : (t : Bool) → insert ys (position_or_len (b x) ys) x ≡ put_by b x ys
        → insert (y ∷ ys) (cond (not t) (1 + position_or_len (b x) ys) 0) x ≡ cond t (x ∷ y ∷ ys) (y ∷ put_by b x ys)
    by true rest = refl
    by false rest = (λ i. insert (y ∷ ys) (one_more (position_or_len (b x) ys) i) x) ∙ ap (λ zs. y ∷ zs) rest

lower : (m n : ℕ) → nat_lt (1 + m) (suc n) ≡ false → nat_lt m n ≡ false
lower m n e = grind arith

first_below : (n : ℕ) → nat_lt 0 (suc n) ≡ false → ⊥
first_below n e = grind arith

pub put_last : {X : Type 0} (b : X → X → Bool) (x : X) (ys : List X) → nat_lt (position_or_len (b x) ys) (length ys) ≡ false → ys ++ x ∷ [] ≡ put_by b x ys
put_last b x [] e = refl
put_last b x (y ∷ ys) e = by (b x y) e (put_last b x ys)
  where
    by : (t : Bool) → nat_lt (cond (not t) (1 + position_or_len (b x) ys) 0) (suc (length ys)) ≡ false → (nat_lt (position_or_len (b x) ys) (length ys) ≡ false → ys ++ x ∷ [] ≡ put_by b x ys)
        → y ∷ (ys ++ x ∷ []) ≡ cond t (x ∷ y ∷ ys) (y ∷ put_by b x ys)
    by true f rest = absurd (first_below (length ys) f)
    by false f rest = ap (λ zs. y ∷ zs) (rest (lower (position_or_len (b x) ys) (length ys) f))

placed_by : (t : Bool) (n place : ℕ) → cond t (Some n) None ≡ Some place → n ≡ place
placed_by true n place e = cc
placed_by false n place e = absurd cc

unplaced_by : (t : Bool) (n : ℕ) → cond t (Some n) None ≡ None → t ≡ false
unplaced_by true n e = absurd cc
unplaced_by false n e = refl

pub placed : {X : Type 0} (b : X → X → Bool) (x : X) (ys : List X) (place : ℕ) → position (b x) ys ≡ Some place → insert ys place x ≡ put_by b x ys
placed b x ys place e =
    ap (λ n. insert ys n x) (sym (placed_by (nat_lt (position_or_len (b x) ys) (length ys)) (position_or_len (b x) ys) place e)) ∙ put_place b x ys

pub unplaced : {X : Type 0} (b : X → X → Bool) (x : X) (ys : List X) → position (b x) ys ≡ None → ys ++ x ∷ [] ≡ put_by b x ys
unplaced b x ys e = put_last b x ys (unplaced_by (nat_lt (position_or_len (b x) ys) (length ys)) (position_or_len (b x) ys) e)

-- ---- listeners that pass a test
module _ (at : ServedListener → Bool) where
  abbrev number : ServedListener → ℕ
  number l = l.number

  abbrev name : ServedListener → List ℕ
  name l = l.name

  pub group_put : (l : ServedListener) (ls : List ServedListener) → IsInOrder number name ls
      → cond (at l) (put_before name l (filter at ls)) (filter at ls) ≡ filter at (put_before name l ls)
  group_put l ls o = by (at l) refl
    where
      by : (b : Bool) → at l ≡ b → cond b (put_before name l (filter at ls)) (filter at ls) ≡ filter at (put_before name l ls)
      by true e = put_seen name at l ls o.names e
      by false e = sym (put_blind at (λ one other. is_before (name one) (name other)) l ls e)

  pub group_less : (n : ℕ) (c : ServedListener) (ls : List ServedListener) → IsInOrder number name ls → numbered number ls n ≡ Some c
      → cond (at c) (without_number number c.number (filter at ls)) (filter at ls) ≡ filter at (without_number number n ls)
  group_less n c ls o found =
      (λ i. cond (at c) (without_number number ((numbers_decide c.number n).0 (found_passes (λ (l : ServedListener). l.number == n) ls c found) i) (filter at ls)) (filter at ls))
      ∙ by (at c) refl
    where
      by : (b : Bool) → at c ≡ b → cond b (without_number number n (filter at ls)) (filter at ls) ≡ filter at (without_number number n ls)
      by true e = sym (filters_turn at (λ l. not (number l == n)) ls)
      by false e =
          sym (filter_blind at (λ l. not (number l == n)) ls
          (every_so (λ l. not (number l == n) ≡ false → l ≡ c) (λ l. not (number l == n) ≡ false → at l ≡ false) ls (λ l one gone. ap at (one gone) ∙ e) (only_one number n ls c o.numbers found)))

-- what is under an address is under one that is the same
pub same_address : {A : Type 0} (f : Host → A) (a b : Host) (rest : A) → cond (host_same a b) (f a) rest ≡ cond (host_same a b) (f b) rest
same_address f a b rest = by (host_same a b) refl
  where
    by : (t : Bool) → host_same a b ≡ t → cond t (f a) rest ≡ cond t (f b) rest
    by true e = ap f ((host_decides a b).0 e)
    by false e = refl
