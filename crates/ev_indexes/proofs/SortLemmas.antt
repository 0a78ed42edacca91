-- Sorted lists by a key that is a text: what a sort of the machine's leaves,
-- and two strictly sorted lists of the same elements are equal.
use Rattle.std.proofs.Common.{◌≡◌, ◌∙◌, ℕ, ◌+◌, Bool, true, false, List, [], ◌∷◌, ◌⊎◌, inl, inr, Ordering, refl, sym, ap, subst, true≢false, get_or, arith}
use Rattle.std.specs.declared.cmp.Ordering.TheVariants.{Less, Equal, Greater}
use Rattle.std.specs.Cmp.{IsTotalOrder, tied_itself, alike_right}
use Rattle.std.specs.Cmp.Lexicographic.{slice_cmp}
use Rattle.std.specs.List.{AllByRecursion, IsDistinct, dedup, dedup_from}
use Rattle.std.specs.List.Sorted.{IsPermutation, IsSorted, IsStrictlySortedBy}
use Rattle.std.specs.Ordering.{nat_cmp, is_lt, is_eq, ordering_reverse, eq_by_cmp}
use Rattle.std.specs.Str.{bytes_eq}
use Rattle.std.proofs.lemmas.Bool.{cond_both}
use Rattle.std.proofs.lemmas.Cmp.{nat_list_cmp_total}
use Rattle.std.proofs.lemmas.List.Elements.{All-from_recursion, recursion_from_All}
use Rattle.std.proofs.lemmas.List.Kept.{IsStrictlySortedBy-dedup}
use Rattle.std.proofs.lemmas.List.Sorted.{All-permutation, IsPermutation-sym}
use Rattle.std.proofs.lemmas.Map.Keys.{apart_from_distinct, sorted_from_all_adjacent}
use Rattle.std.proofs.lemmas.Map.Text.{is_eq-slice_cmp}
use Rattle.ev_types.specs.Same.{bytes_decide}
use Rattle.ev_model.specs.Sorted.{put_by, sorted_by}
use Rattle.ev_model.specs.Versions.{is_before}

-- what holds of each element stays so when the elements change places
pub record SameElements {X : Type 0} (xs ys : List X) : Type 1 where
  pub there : (P : X → Type 0) → AllByRecursion P xs → AllByRecursion P ys
  pub back : (P : X → Type 0) → AllByRecursion P ys → AllByRecursion P xs

pub same_elements-then : {X : Type 0} (xs ys zs : List X) → SameElements xs ys → SameElements ys zs → SameElements xs zs
same_elements-then xs ys zs a b = record { there = λ P h. b.there P (a.there P h); back = λ P h. a.back P (b.back P h) }

pub same_elements-back : {X : Type 0} (xs ys : List X) → SameElements xs ys → SameElements ys xs
same_elements-back xs ys a = record { there = a.back; back = a.there }

all_so : {X : Type 0} (P Q : X → Type 0) (ys : List X) → ((y : X) → P y → Q y) → AllByRecursion P ys → AllByRecursion Q ys
all_so P Q [] so all = tt
all_so P Q (y ∷ ys) so all = (so y all.0, all_so P Q ys so all.1)

all_both : {X : Type 0} (P Q R : X → Type 0) (ys : List X) → ((y : X) → P y → Q y → R y) → AllByRecursion P ys → AllByRecursion Q ys → AllByRecursion R ys
all_both P Q R [] so p q = tt
all_both P Q R (y ∷ ys) so p q = (so y p.0 q.0, all_both P Q R ys so p.1 q.1)

module _ {X : Type 0} (c : X → X → Ordering) (o : IsTotalOrder c) where
  never : (x : X) → c x x ≡ Less → ⊥
  never x h = true≢false (ap is_lt (sym h ∙ tied_itself o x))

  turn : (x y : X) → c x y ≡ Less → c y x ≡ Less → ⊥
  turn x y h k = true≢false (ap is_lt (sym h ∙ o.antisymm x y ∙ ap ordering_reverse k))

  -- two strictly sorted lists of the same elements are equal
  pub sorted-unique : (xs ys : List X) → IsStrictlySortedBy c xs → IsStrictlySortedBy c ys → SameElements xs ys → xs ≡ ys
  unfolding IsStrictlySortedBy
  sorted-unique [] [] s t same = refl
  sorted-unique [] (y ∷ ys) s t same = absurd (same.there (λ z. ⊥) tt).0
  sorted-unique (x ∷ xs) [] s t same = absurd (same.back (λ z. ⊥) tt).0
  sorted-unique (x ∷ xs) (y ∷ ys) s t same = λ i. head i ∷ sorted-unique xs ys s.1 t.1 rest i
    where
      among : (z : X) (zs : List X) → AllByRecursion (λ w. c z w ≡ Less) zs → AllByRecursion (λ w. (z ≡ w) ⊎ (c z w ≡ Less)) (z ∷ zs)
      among z zs all = (inl refl, all_so (λ w. c z w ≡ Less) (λ w. (z ≡ w) ⊎ (c z w ≡ Less)) zs (λ w h. inr h) all)

      decide : (y ≡ x) ⊎ (c y x ≡ Less) → (x ≡ y) ⊎ (c x y ≡ Less) → x ≡ y
      decide (inl e) k = sym e
      decide (inr h) (inl e) = e
      decide (inr h) (inr k) = absurd (turn y x h k)

      head : x ≡ y
      head = decide (same.back (λ w. (y ≡ w) ⊎ (c y w ≡ Less)) (among y ys t.0)).0 (same.there (λ w. (x ≡ w) ⊎ (c x w ≡ Less)) (among x xs s.0)).0

      rest : SameElements xs ys
      rest = record {
        there = λ P h. all_both (λ w. c y w ≡ Less) (λ w. c x w ≡ Less → P w) P ys (λ w l f. f ((λ i. c (head i) w) ∙ l)) t.0
            (same.there (λ w. c x w ≡ Less → P w) ((λ l. absurd (never x l)), all_so P (λ w. c x w ≡ Less → P w) xs (λ w p l. p) h)).1;
        back = λ P h. all_both (λ w. c x w ≡ Less) (λ w. c y w ≡ Less → P w) P xs (λ w l f. f ((λ i. c (sym head i) w) ∙ l)) s.0
            (same.back (λ w. c y w ≡ Less → P w) ((λ l. absurd (never y l)), all_so P (λ w. c y w ≡ Less → P w) ys (λ w p l. p) h)).1;
      }

  -- a sort of the machine's, by the strict order
  abbrev pub before : X → X → Bool
  before x y = is_lt (c x y)

  put_there : (P : X → Type 0) (x : X) (ys : List X) → P x → AllByRecursion P ys → AllByRecursion P (put_by before x ys)
  put_there P x [] here all = (here, all)
  put_there P x (y ∷ ys) here all =
      cond_both (before x y) (x ∷ y ∷ ys) (y ∷ put_by before x ys) (AllByRecursion P) (λ e. (here, all)) (λ e. (all.0, put_there P x ys here all.1))

  put_back : (P : X → Type 0) (x : X) (ys : List X) → AllByRecursion P (put_by before x ys) → P x × AllByRecursion P ys
  put_back P x [] all = (all.0, tt)
  put_back P x (y ∷ ys) all =
      cond_both (before x y) (x ∷ y ∷ ys) (y ∷ put_by before x ys) (λ zs. AllByRecursion P zs → P x × AllByRecursion P (y ∷ ys))
      (λ e whole. (whole.0, whole.1)) (λ e whole. let rest = put_back P x ys whole.1 in (rest.0, (whole.0, rest.1))) all

  pub sorted_by-same : (xs : List X) → SameElements xs (sorted_by before xs)
  sorted_by-same [] = record { there = λ P h. h; back = λ P h. h }
  sorted_by-same (x ∷ xs) =
      let rest = sorted_by-same xs in
      record {
        there = λ P h. put_there P x (sorted_by before xs) h.0 (rest.there P h.1);
        back = λ P h. let parts = put_back P x (sorted_by before xs) h in (parts.0, rest.back P parts.1);
      }

  -- of elements that differ
  put_strict : (x : X) (ys : List X) → AllByRecursion (λ y. eq_by_cmp c x y ≡ false) ys → IsStrictlySortedBy c ys → IsStrictlySortedBy c (put_by before x ys)
  unfolding IsStrictlySortedBy
  put_strict x [] apart s = (tt, tt)
  put_strict x (y ∷ ys) apart s =
      cond_both (before x y) (x ∷ y ∷ ys) (y ∷ put_by before x ys) (IsStrictlySortedBy c)
      (λ e. let less = first (c x y) e in ((less, all_so (λ w. c y w ≡ Less) (λ w. c x w ≡ Less) ys (λ w l. o.trans x y w less l) s.0), s))
      (λ e. (put_there (λ w. c y w ≡ Less) x ys (second (c x y) refl e apart.0) s.0, put_strict x ys apart.1 s.1))
    where
      first : (r : Ordering) → is_lt r ≡ true → r ≡ Less
      first Less h = refl
      first Equal h = absurd (true≢false (sym h))
      first Greater h = absurd (true≢false (sym h))

      second : (r : Ordering) → c x y ≡ r → is_lt r ≡ false → is_eq r ≡ false → c y x ≡ Less
      second Less e h k = absurd (true≢false h)
      second Equal e h k = absurd (true≢false k)
      second Greater e h k = o.antisymm y x ∙ ap ordering_reverse e

  pub sorted_by-strict : (xs : List X) → IsDistinct (eq_by_cmp c) xs → IsStrictlySortedBy c (sorted_by before xs)
  unfolding IsStrictlySortedBy IsDistinct
  sorted_by-strict [] apart = tt
  sorted_by-strict (x ∷ xs) apart =
      put_strict x (sorted_by before xs) ((sorted_by-same xs).there (λ y. eq_by_cmp c x y ≡ false) apart.0) (sorted_by-strict xs apart.1)

  -- and of any: what repeats goes
  abbrev Rises : List X → Type 0
  Rises [] = Unit {0}
  Rises (x ∷ xs) = AllByRecursion (λ y. before y x ≡ false) xs × Rises xs

  put_rises : (x : X) (ys : List X) → Rises ys → Rises (put_by before x ys)
  put_rises x [] rises = (tt, tt)
  put_rises x (y ∷ ys) rises =
      cond_both (before x y) (x ∷ y ∷ ys) (y ∷ put_by before x ys) Rises
      (λ e. ((ap is_lt (o.antisymm y x) ∙ later (c x y) e, all_so (λ w. before w y ≡ false) (λ w. before w x ≡ false) ys (λ w h. after w (c x y) refl e h (c w x) refl) rises.0), rises))
      (λ e. (put_there (λ w. before w y ≡ false) x ys e rises.0, put_rises x ys rises.1))
    where
      later : (r : Ordering) → is_lt r ≡ true → is_lt (ordering_reverse r) ≡ false
      later Less h = refl
      later Equal h = absurd (true≢false (sym h))
      later Greater h = absurd (true≢false (sym h))

      after : (w : X) (r : Ordering) → c x y ≡ r → is_lt r ≡ true → before w y ≡ false → (t : Ordering) → c w x ≡ t → is_lt t ≡ false
      after w Equal e l h t f = absurd (true≢false (sym l))
      after w Greater e l h t f = absurd (true≢false (sym l))
      after w Less e l h Less f = absurd (true≢false (ap is_lt (sym (o.trans w x y f e)) ∙ h))
      after w Less e l h Equal f = refl
      after w Less e l h Greater f = refl

  sorted_by-rises : (xs : List X) → Rises (sorted_by before xs)
  sorted_by-rises [] = tt
  sorted_by-rises (x ∷ xs) = put_rises x (sorted_by before xs) (sorted_by-rises xs)

  module _ (E : X → X → Bool) (ties : (x y : X) → E x y ≡ eq_by_cmp c x y) (same : (x y : X) → E x y ≡ true → x ≡ y) where
    dedup_there : (P : X → Type 0) (k : X) (xs : List X) → P k → AllByRecursion P xs → AllByRecursion P (dedup_from E k xs)
    dedup_there P k [] here all = (here, all)
    dedup_there P k (x ∷ xs) here all =
        cond_both (E x k) (dedup_from E k xs) (k ∷ dedup_from E x xs) (AllByRecursion P) (λ e. dedup_there P k xs here all.1) (λ e. (here, dedup_there P x xs all.0 all.1))

    dedup_back : (P : X → Type 0) (k : X) (xs : List X) → AllByRecursion P (dedup_from E k xs) → P k × AllByRecursion P xs
    dedup_back P k [] all = (all.0, tt)
    dedup_back P k (x ∷ xs) all =
        cond_both (E x k) (dedup_from E k xs) (k ∷ dedup_from E x xs) (λ zs. AllByRecursion P zs → P k × AllByRecursion P (x ∷ xs))
        (λ e whole. let rest = dedup_back P k xs whole in (rest.0, (subst P (sym (same x k e)) rest.0, rest.1)))
        (λ e whole. let rest = dedup_back P x xs whole.1 in (whole.0, (rest.0, rest.1))) all

    pub dedup-same : (xs : List X) → SameElements xs (dedup E xs)
    dedup-same [] = record { there = λ P h. h; back = λ P h. h }
    dedup-same (x ∷ xs) = record { there = λ P h. dedup_there P x xs h.0 h.1; back = λ P h. dedup_back P x xs h }

    dedup_strict : (k : X) (xs : List X) → Rises (k ∷ xs) → IsStrictlySortedBy c (dedup_from E k xs)
    unfolding IsStrictlySortedBy
    dedup_strict k [] rises = (tt, tt)
    dedup_strict k (x ∷ xs) rises =
        cond_both (E x k) (dedup_from E k xs) (k ∷ dedup_from E x xs) (IsStrictlySortedBy c)
        (λ e. dedup_strict k xs (rises.0.1, rises.1.1))
        (λ e. let less = above (c k x) (o.antisymm x k) rises.0.0 (sym (ties x k) ∙ e) in (
          dedup_there (λ w. c k w ≡ Less) x xs less (all_so (λ w. before w x ≡ false) (λ w. c k w ≡ Less) xs (λ w h. beyond w less (c x w) refl (ap is_lt (sym (o.antisymm w x)) ∙ h)) rises.1.0),
          dedup_strict x xs rises.1,
        ))
      where
        above : (r : Ordering) → c x k ≡ ordering_reverse r → is_lt (c x k) ≡ false → is_eq (c x k) ≡ false → r ≡ Less
        above Less e h f = refl
        above Equal e h f = absurd (true≢false (ap is_eq (sym e) ∙ f))
        above Greater e h f = absurd (true≢false (ap is_lt (sym e) ∙ h))

        beyond : (w : X) → c k x ≡ Less → (r : Ordering) → c x w ≡ r → is_lt (ordering_reverse r) ≡ false → c k w ≡ Less
        beyond w less Less e h = o.trans k x w less e
        beyond w less Equal e h = sym (alike_right o x w k e) ∙ less
        beyond w less Greater e h = absurd (true≢false h)

    pub sorted_by-dedup : (xs : List X) → IsStrictlySortedBy c (dedup E (sorted_by before xs))
    unfolding IsStrictlySortedBy
    sorted_by-dedup xs = by (sorted_by before xs) (sorted_by-rises xs)
      where
        by : (ys : List X) → Rises ys → IsStrictlySortedBy c (dedup E ys)
        by [] rises = tt
        by (y ∷ ys) rises = dedup_strict y ys rises

  -- what a sort of std leaves
  pub permuted-same : (xs ys : List X) → IsPermutation xs ys → SameElements xs ys
  permuted-same xs ys moved = record {
    there = λ P h. recursion_from_All P ys (All-permutation P xs ys moved (All-from_recursion P xs h));
    back = λ P h. recursion_from_All P xs (All-permutation P ys xs (IsPermutation-sym xs ys moved) (All-from_recursion P ys h));
  }

  pub distinct-strict : (xs : List X) → IsDistinct (eq_by_cmp c) xs → IsSorted c xs → IsStrictlySortedBy c xs
  unfolding IsStrictlySortedBy
  distinct-strict [] apart sorted = tt
  distinct-strict (x ∷ xs) apart sorted =
      sorted_from_all_adjacent o (x ∷ xs) x (λ k within. by (c (get_or (x ∷ xs) k x) (get_or (x ∷ xs) (k + 1) x)) refl
      (ap is_lt (sym (o.antisymm (get_or (x ∷ xs) (k + 1) x) (get_or (x ∷ xs) k x))) ∙ sorted k x (omega arith) within)
      (apart_from_distinct (eq_by_cmp c) (x ∷ xs) k (k + 1) x apart (omega arith) within))
    where
      by : (r : Ordering) {a b : X} → c a b ≡ r → is_lt (ordering_reverse (c a b)) ≡ false → is_eq (c a b) ≡ false → c a b ≡ Less
      by Less e h f = e
      by Equal e h f = absurd (true≢false (ap is_eq (sym e) ∙ f))
      by Greater e h f = absurd (true≢false (ap (λ r. is_lt (ordering_reverse r)) (sym e) ∙ h))

-- names in the order of their bytes, each once: what a sort and a dedup leave is what the machine's leave
pub names-sorted : (xs ys : List (List ℕ)) → IsPermutation xs ys → IsSorted (slice_cmp nat_cmp) ys → dedup bytes_eq ys ≡ dedup bytes_eq (sorted_by is_before xs)
names-sorted xs ys moved sorted =
    let o = nat_list_cmp_total in
    let c = slice_cmp nat_cmp in
    let ties : (a b : List ℕ) → bytes_eq a b ≡ eq_by_cmp c a b = λ a b. sym (is_eq-slice_cmp a b) in
    let same : (a b : List ℕ) → bytes_eq a b ≡ true → a ≡ b = λ a b. (bytes_decide a b).0 in
    sorted-unique c o (dedup bytes_eq ys) (dedup bytes_eq (sorted_by is_before xs))
    (IsStrictlySortedBy-dedup o ties ys sorted)
    (sorted_by-dedup c o bytes_eq ties same xs)
    (same_elements-then (dedup bytes_eq ys) ys (dedup bytes_eq (sorted_by is_before xs)) (same_elements-back ys (dedup bytes_eq ys) (dedup-same c o bytes_eq ties same ys))
    (same_elements-then ys xs (dedup bytes_eq (sorted_by is_before xs)) (same_elements-back xs ys (permuted-same c o xs ys moved))
    (same_elements-then xs (sorted_by is_before xs) (dedup bytes_eq (sorted_by is_before xs)) (sorted_by-same c o xs) (dedup-same c o bytes_eq ties same (sorted_by is_before xs)))))
