-- Lists in the order of names: two that find the same under each name are equal.
use Rattle.std.proofs.Common.{◌≡◌, ◌∙◌, ℕ, Bool, true, false, cond, List, [], ◌∷◌, filter, find, Some, None, Ordering, refl, sym, ap, subst, true≢false}
use Rattle.std.specs.declared.cmp.Ordering.TheVariants.{Less, Equal, Greater}
use Rattle.std.specs.Cmp.{tied_itself}
use Rattle.std.specs.Cmp.Lexicographic.{slice_cmp}
use Rattle.std.specs.List.{AllByRecursion}
use Rattle.std.specs.Ordering.{nat_cmp, is_lt, is_eq, ordering_reverse}
use Rattle.std.specs.Str.{bytes_eq}
use Rattle.std.proofs.lemmas.Bool.{cond_both}
use Rattle.std.proofs.lemmas.Cmp.{nat_list_cmp_total}
use Rattle.std.proofs.lemmas.Map.Text.{is_eq-slice_cmp}
use Rattle.ev_types.specs.Same.{bytes_decide}
use Rattle.ev_model.specs.Sorted.{put_by}
use Rattle.ev_model.specs.Versions.{is_before}
use Rattle.ev_layers.specs.Rows.{IsPairwise, named}

-- ---- the order of names
is_less : (r : Ordering) → is_lt r ≡ true → r ≡ Less
is_less Less h = refl
is_less Equal h = absurd (true≢false (sym h))
is_less Greater h = absurd (true≢false (sym h))

pub same_name : (a b : List ℕ) → bytes_eq a b ≡ true → a ≡ b
same_name a b h = (bytes_decide a b).0 h

pub own_name : (a : List ℕ) → bytes_eq a a ≡ true
own_name a = (bytes_decide a a).1 refl

pub before_then : (a b c : List ℕ) → is_before a b ≡ true → is_before b c ≡ true → is_before a c ≡ true
before_then a b c h k = ap is_lt (nat_list_cmp_total.trans a b c (is_less (slice_cmp nat_cmp a b) h) (is_less (slice_cmp nat_cmp b c) k))

never : (a : List ℕ) → is_before a a ≡ true → ⊥
never a h = true≢false (sym h ∙ ap is_lt (tied_itself nat_list_cmp_total a))

pub once : (a b : List ℕ) → is_before a b ≡ true → is_before b a ≡ true → ⊥
once a b h k = never a (before_then a b a h k)

-- a name after another is another one
pub behind : (a b n : List ℕ) → is_before a b ≡ true → bytes_eq a n ≡ true → bytes_eq b n ≡ false
behind a b n h same = by (bytes_eq b n) refl
  where
    by : (t : Bool) → bytes_eq b n ≡ t → t ≡ false
    by false e = refl
    by true e = absurd (never a (subst (λ c. is_before a c ≡ true) (same_name b n e ∙ sym (same_name a n same)) h))

pub ahead : (a b n : List ℕ) → is_before a b ≡ true → bytes_eq b n ≡ true → bytes_eq a n ≡ false
ahead a b n h same = by (bytes_eq a n) refl
  where
    by : (t : Bool) → bytes_eq a n ≡ t → t ≡ false
    by false e = refl
    by true e = absurd (never a (subst (λ c. is_before a c ≡ true) (same_name b n same ∙ sym (same_name a n e)) h))

-- of two names that differ, the one that isn't before the other is after it
pub turned : (a b : List ℕ) → is_before a b ≡ false → bytes_eq b a ≡ false → is_before b a ≡ true
turned a b h apart = by (slice_cmp nat_cmp a b) refl
  where
    by : (r : Ordering) → slice_cmp nat_cmp a b ≡ r → is_before b a ≡ true
    by Less e = absurd (true≢false (sym (ap is_lt e) ∙ h))
    by Equal e = absurd (true≢false (sym ((bytes_decide b a).1 (sym (same_name a b (sym (is_eq-slice_cmp a b) ∙ ap is_eq e)))) ∙ apart))
    by Greater e = ap is_lt (nat_list_cmp_total.antisymm b a ∙ ap ordering_reverse e)

-- ---- lists
pub every_so : {X : Type 0} (P Q : X → Type 0) (ys : List X) → ((y : X) → P y → Q y) → AllByRecursion P ys → AllByRecursion Q ys
every_so P Q [] so all = tt
every_so P Q (y ∷ ys) so all = (so y all.0, every_so P Q ys so all.1)

pub every_kept : {X : Type 0} (P : X → Type 0) (p : X → Bool) (xs : List X) → AllByRecursion P xs → AllByRecursion P (filter p xs)
every_kept P p [] all = tt
every_kept P p (x ∷ xs) all =
    cond_both (p x) (x ∷ filter p xs) (filter p xs) (AllByRecursion P) (λ e. (all.0, every_kept P p xs all.1)) (λ e. every_kept P p xs all.1)

pub pairs_kept : {X : Type 0} (test : X → X → Bool) (p : X → Bool) (xs : List X) → IsPairwise test xs → IsPairwise test (filter p xs)
pairs_kept test p [] s = tt
pairs_kept test p (x ∷ xs) s =
    cond_both (p x) (x ∷ filter p xs) (filter p xs) (IsPairwise test)
    (λ e. (every_kept (λ y. test x y ≡ true) p xs s.0, pairs_kept test p xs s.1)) (λ e. pairs_kept test p xs s.1)

pub every_put : {X : Type 0} (P : X → Type 0) (b : X → X → Bool) (x : X) (ys : List X) → P x → AllByRecursion P ys → AllByRecursion P (put_by b x ys)
every_put P b x [] here all = (here, all)
every_put P b x (y ∷ ys) here all =
    cond_both (b x y) (x ∷ y ∷ ys) (y ∷ put_by b x ys) (AllByRecursion P) (λ e. (here, all)) (λ e. (all.0, every_put P b x ys here all.1))

pub kept_whole : {X : Type 0} (p : X → Bool) (xs : List X) → AllByRecursion (λ x. p x ≡ true) xs → filter p xs ≡ xs
kept_whole p [] all = refl
kept_whole p (x ∷ xs) all = (λ i. cond (all.0 i) (x ∷ filter p xs) (filter p xs)) ∙ ap (λ ys. x ∷ ys) (kept_whole p xs all.1)

pub same_kept : {X : Type 0} (p q : X → Bool) (xs : List X) → AllByRecursion (λ x. p x ≡ q x) xs → filter p xs ≡ filter q xs
same_kept p q [] all = refl
same_kept p q (x ∷ xs) all = λ i. cond (all.0 i) (x ∷ same_kept p q xs all.1 i) (same_kept p q xs all.1 i)

pub found_so : {X : Type 0} (P : X → Type 0) (p : X → Bool) (xs : List X) (y : X) → AllByRecursion P xs → find p xs ≡ Some y → P y
found_so P p [] y all e = absurd cc
found_so P p (x ∷ xs) y all e = by (p x) e (found_so P p xs y all.1)
  where
    by : (t : Bool) → cond t (Some x) (find p xs) ≡ Some y → (find p xs ≡ Some y → P y) → P y
    by true h rest = let e : x ≡ y = cc in subst P e all.0
    by false h rest = rest h

pub found_passes : {X : Type 0} (p : X → Bool) (xs : List X) (y : X) → find p xs ≡ Some y → p y ≡ true
found_passes p [] y e = absurd cc
found_passes p (x ∷ xs) y e = by (p x) refl e (found_passes p xs y)
  where
    by : (t : Bool) → p x ≡ t → cond t (Some x) (find p xs) ≡ Some y → (find p xs ≡ Some y → p y ≡ true) → p y ≡ true
    by true f h rest = let e : x ≡ y = cc in subst (λ z. p z ≡ true) e f
    by false f h rest = rest h

pub none_found : {X : Type 0} (p : X → Bool) (xs : List X) → AllByRecursion (λ x. p x ≡ false) xs → find p xs ≡ None
none_found p [] all = refl
none_found p (x ∷ xs) all = (λ i. cond (all.0 i) (Some x) (find p xs)) ∙ none_found p xs all.1

pub all_fail : {X : Type 0} (p : X → Bool) (xs : List X) → find p xs ≡ None → AllByRecursion (λ x. p x ≡ false) xs
all_fail p [] e = tt
all_fail p (x ∷ xs) e = by (p x) refl e (all_fail p xs)
  where
    by : (t : Bool) → p x ≡ t → cond t (Some x) (find p xs) ≡ None → (find p xs ≡ None → AllByRecursion (λ y. p y ≡ false) xs)
        → (p x ≡ false) × AllByRecursion (λ y. p y ≡ false) xs
    by true f h rest = absurd cc
    by false f h rest = (f, rest h)

-- two lists in the order of their names that find the same under each name are equal
module _ {X : Type 0} (name : X → List ℕ) where
  abbrev pub comes_before : X → X → Bool
  comes_before x y = is_before (name x) (name y)

  own : (x : X) (xs : List X) → named name (x ∷ xs) (name x) ≡ Some x
  own x xs = λ i. cond (own_name (name x) i) (Some x) (named name xs (name x))

  none_behind : (x : X) (xs : List X) (n : List ℕ) → AllByRecursion (λ y. comes_before x y ≡ true) xs → bytes_eq (name x) n ≡ true → named name xs n ≡ None
  none_behind x xs n all same =
      none_found (λ y. bytes_eq (name y) n) xs
      (every_so (λ y. comes_before x y ≡ true) (λ y. bytes_eq (name y) n ≡ false) xs (λ y h. behind (name x) (name y) n h same) all)

  heads_one : (x y : X) (xs ys : List X) → IsPairwise comes_before (x ∷ xs) → IsPairwise comes_before (y ∷ ys)
      → named name (y ∷ ys) (name x) ≡ Some x → named name (x ∷ xs) (name y) ≡ Some y → x ≡ y
  heads_one x y xs ys s t there back = by (bytes_eq (name y) (name x)) (bytes_eq (name x) (name y)) there back
    where
      by : (a b : Bool) → cond a (Some y) (named name ys (name x)) ≡ Some x → cond b (Some x) (named name xs (name y)) ≡ Some y → x ≡ y
      by true b h k = cc
      by false true h k = cc
      by false false h k = absurd (
          once (name x) (name y) (found_so (λ z. comes_before x z ≡ true) (λ z. bytes_eq (name z) (name y)) xs y s.0 k)
          (found_so (λ z. comes_before y z ≡ true) (λ z. bytes_eq (name z) (name x)) ys x t.0 h)
          )

  tails_same : (x : X) (xs ys : List X) → AllByRecursion (λ z. comes_before x z ≡ true) xs → AllByRecursion (λ z. comes_before x z ≡ true) ys
      → (n : List ℕ) → named name (x ∷ xs) n ≡ named name (x ∷ ys) n → named name xs n ≡ named name ys n
  tails_same x xs ys s t n whole = by (bytes_eq (name x) n) refl whole
    where
      by : (b : Bool) → bytes_eq (name x) n ≡ b → cond b (Some x) (named name xs n) ≡ cond b (Some x) (named name ys n) → named name xs n ≡ named name ys n
      by true e h = none_behind x xs n s e ∙ sym (none_behind x ys n t e)
      by false e h = h

  pub one_list : (xs ys : List X) → IsPairwise comes_before xs → IsPairwise comes_before ys → ((n : List ℕ) → named name xs n ≡ named name ys n) → xs ≡ ys
  one_list [] [] s t same = refl
  one_list [] (y ∷ ys) s t same = let e : None ≡ Some y = same (name y) ∙ own y ys in absurd cc
  one_list (x ∷ xs) [] s t same = let e : Some x ≡ None = sym (own x xs) ∙ same (name x) in absurd cc
  one_list (x ∷ xs) (y ∷ ys) s t same =
      let head : x ≡ y = heads_one x y xs ys s t (sym (same (name x)) ∙ own x xs) (same (name y) ∙ own y ys) in
      let behind_x : AllByRecursion (λ z. comes_before x z ≡ true) ys = subst (λ w. AllByRecursion (λ z. comes_before w z ≡ true) ys) (sym head) t.0 in
      let tail : xs ≡ ys = one_list xs ys s.1 t.1 (λ n. tails_same x xs ys s.0 behind_x n (same n ∙ (λ i. named name (sym head i ∷ ys) n))) in
      λ i. head i ∷ tail i
