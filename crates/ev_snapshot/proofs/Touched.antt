-- Changes that keep what each name that they touch had keep all.
use Rattle.std.proofs.Common.{◌≡◌, ◌∙◌, ℕ, ◌==◌, ◌||◌, ◌&&◌, not, Bool, true, false, cond, List, [], ◌∷◌, filter, find, map, Option, Some, None, refl, sym, ap, subst, true≢false}
use Rattle.std.specs.Bool.{Decides}
use Rattle.std.specs.List.{AllByRecursion, list_any, list_all}
use Rattle.std.specs.Str.{bytes_eq}
use Rattle.ev_types.specs.Same.{bytes_decide, numbers_decide}
use Rattle.ev_model.specs.Picture.{has_number}
use Rattle.ev_model.specs.Versions.{is_before}
use Rattle.ev_layers.specs.Rows.{IsInOrder, IsPairwise, put_in, named, numbered, without_name, without_number}
use Rattle.ev_layers.specs.Kept.{found_same, keeps, keeps_name, keeps_name_of, keeps_number, keeps_served}
use Rattle.ev_layers.proofs.Order.{found_passes, one_list, same_name}
use Rattle.ev_layers.proofs.Steps.{find_put, find_without, kept_order, no_name_left, no_number_left, other_way, put_both, put_order}
use Rattle.ev_snapshot.specs.Changes.{without}

both_true : (a b : Bool) → a && b ≡ true → (a ≡ true) × (b ≡ true)
both_true true b h = (refl, h)
both_true false b h = absurd (true≢false (sym h))

either_true : {P : Type 0} (a b : Bool) → a || b ≡ true → (a ≡ true → P) → (b ≡ true → P) → P
either_true true b h p q = p refl
either_true false b h p q = q h

both_false : (a b : Bool) → a || b ≡ false → (a ≡ false) × (b ≡ false)
both_false true b h = absurd (true≢false h)
both_false false b h = (refl, h)

-- what a filter keeps is found as before
pub find_kept : {X : Type 0} (p q : X → Bool) (xs : List X) → ((y : X) → find p xs ≡ Some y → q y ≡ true) → find p (filter q xs) ≡ find p xs
find_kept p q [] kept = refl
find_kept p q (x ∷ xs) kept = by (p x) (q x) refl refl kept (find_kept p q xs)
  where
    by : (a b : Bool) → p x ≡ a → q x ≡ b → ((y : _) → cond a (Some x) (find p xs) ≡ Some y → q y ≡ true)
        → (((y : _) → find p xs ≡ Some y → q y ≡ true) → find p (filter q xs) ≡ find p xs)
        → find p (cond b (x ∷ filter q xs) (filter q xs)) ≡ cond a (Some x) (find p xs)
    by true true e f kept rest = λ i. cond (e i) (Some x) (find p (filter q xs))
    by true false e f kept rest = absurd (true≢false (sym (kept x refl) ∙ f))
    by false true e f kept rest = (λ i. cond (e i) (Some x) (find p (filter q xs))) ∙ rest kept
    by false false e f kept rest = rest kept

-- what is found by whatever test is found by its number, where no number occurs twice
own_number : {X : Type 0} (number : X → ℕ) (p : X → Bool) (xs : List X) (y : X) → IsPairwise (λ a b. not (number a == number b)) xs → find p xs ≡ Some y
    → numbered number xs (number y) ≡ Some y
own_number number p [] y s e = absurd cc
own_number number p (x ∷ xs) y s e = by (p x) e (own_number number p xs y s.1)
  where
    apart : (zs : List _) → AllByRecursion (λ z. not (number x == number z) ≡ true) zs → find p zs ≡ Some y → (number x == number y) ≡ false
    apart [] all e = absurd cc
    apart (z ∷ zs) all e = at (p z) e (apart zs all.1)
      where
        at : (b : Bool) → cond b (Some z) (find p zs) ≡ Some y → (find p zs ≡ Some y → (number x == number y) ≡ false) → (number x == number y) ≡ false
        at true h rest = let one : z ≡ y = cc in subst (λ w. (number x == number w) ≡ false) one (negated (number x == number z) all.0)
          where
            negated : (b : Bool) → not b ≡ true → b ≡ false
            negated true h = absurd (true≢false (sym h))
            negated false h = refl
        at false h rest = rest h

    by : (b : Bool) → cond b (Some x) (find p xs) ≡ Some y → (find p xs ≡ Some y → numbered number xs (number y) ≡ Some y) → numbered number (x ∷ xs) (number y) ≡ Some y
    by true h rest =
        let one : x ≡ y = cc in
        subst (λ w. numbered number (x ∷ xs) (number w) ≡ Some w) one (λ i. cond ((numbers_decide (number x) (number x)).1 refl i) (Some x) (numbered number xs (number x)))
    by false h rest = (λ i. cond (apart xs s.0 h i) (Some x) (numbered number xs (number y))) ∙ rest h

module _ {C X : Type 0} (number : X → ℕ) (name : X → List ℕ) (changed : C → ℕ) (served : C → Option X) where
  -- what serves now is put in, one after the other
  abbrev pub put_one : Option X → List X → List X
  put_one None xs = xs
  put_one (Some x) xs = put_in number name x xs

  abbrev pub put_all : List C → List X → List X
  put_all [] xs = xs
  put_all (c ∷ cs) xs = put_all cs (put_one (served c) xs)

  -- the name of what a search finds
  abbrev pub touches_of : List ℕ → Option X → Bool
  touches_of m None = false
  touches_of m (Some x) = bytes_eq (name x) m

  abbrev pub touches_served : List X → List ℕ → Option X → Bool
  touches_served xs m None = false
  touches_served xs m (Some x) = touches_of m (numbered number xs (number x)) || bytes_eq (name x) m

  abbrev pub touches : List X → List ℕ → C → Bool
  touches xs m c = touches_of m (numbered number xs (changed c)) || touches_served xs m (served c)

  -- ---- under a name that no change touches
  abbrev Same : List X → List X → List ℕ → Type 0
  Same xs ys m = named name ys m ≡ named name xs m

  not_touched : (xs : List X) (m : List ℕ) (n : ℕ) (y : X) → IsInOrder number name xs → touches_of m (numbered number xs n) ≡ false
      → named name xs m ≡ Some y → (number y == n) ≡ false
  not_touched xs m n y o far found = by (number y == n) refl
    where
      by : (b : Bool) → (number y == n) ≡ b → b ≡ false
      by false e = refl
      by true e =
          let at : numbered number xs n ≡ Some y = ap (numbered number xs) (sym ((numbers_decide (number y) n).0 e)) ∙ own_number number (λ x. bytes_eq (name x) m) xs y o.numbers found in
          absurd (true≢false (sym (ap (touches_of m) at ∙ found_passes (λ x. bytes_eq (name x) m) xs y found) ∙ far))

  gone_apart : (xs : List X) (m : List ℕ) (y : X) (cs : List C) → IsInOrder number name xs → named name xs m ≡ Some y → list_any (touches xs m) cs ≡ false
      → has_number (number y) (map changed cs) ≡ false
  gone_apart xs m y [] o found far = refl
  gone_apart xs m y (c ∷ cs) o found far =
      let parts = both_false (touches xs m c) (list_any (touches xs m) cs) far in
      let here = both_false (touches_of m (numbered number xs (changed c))) (touches_served xs m (served c)) parts.0 in
      (λ i. other_way (λ a b. a == b) numbers_decide number (number y) (changed c) (not_touched xs m (changed c) y o here.0 found) i || gone_apart xs m y cs o found parts.1 i)

  gone_same : (xs : List X) (m : List ℕ) (cs : List C) → IsInOrder number name xs → list_any (touches xs m) cs ≡ false → Same xs (without number (map changed cs) xs) m
  gone_same xs m cs o far =
      find_kept (λ x. bytes_eq (name x) m) (λ x. not (has_number (number x) (map changed cs))) xs (λ y found. ap not (gone_apart xs m y cs o found far))

  put_same : (xs ys : List X) (m : List ℕ) (x : X) → IsInOrder number name xs → Same xs ys m → touches_served xs m (Some x) ≡ false → Same xs (put_in number name x ys) m
  put_same xs ys m x o same far =
      let parts = both_false (touches_of m (numbered number xs (number x))) (bytes_eq (name x) m) far in
      let fewer = without_number number (number x) ys in
      ap (λ zs. named name zs m) (sym (put_both number name x ys))
      ∙ find_put bytes_eq bytes_decide name (λ a b. is_before (name a) (name b)) x (without_name name (name x) fewer) m (no_name_left number name fewer (name x))
      ∙ (λ i. cond (parts.1 i) (Some x) (named name (without_name name (name x) fewer) m))
      ∙ find_without bytes_eq bytes_decide name (name x) fewer m
      ∙ (λ i. cond (parts.1 i) None (named name fewer m))
      ∙ find_kept (λ y. bytes_eq (name y) m) (λ y. not (number y == number x)) ys (λ y found. ap not (not_touched xs m (number x) y o parts.0 (sym same ∙ found)))
      ∙ same

  all_same : (xs ys : List X) (m : List ℕ) (cs : List C) → IsInOrder number name xs → Same xs ys m → list_any (touches xs m) cs ≡ false → Same xs (put_all cs ys) m
  all_same xs ys m [] o same far = same
  all_same xs ys m (c ∷ cs) o same far =
      let parts = both_false (touches xs m c) (list_any (touches xs m) cs) far in
      let here = both_false (touches_of m (numbered number xs (changed c))) (touches_served xs m (served c)) parts.0 in
      all_same xs (put_one (served c) ys) m cs o (by (served c) here.1) parts.1
    where
      by : (s : Option X) → touches_served xs m s ≡ false → Same xs (put_one s ys) m
      by None far = same
      by (Some x) far = put_same xs ys m x o same far

  -- what no change touches under its name is found there afterwards
  pub untouched : (xs : List X) (m : List ℕ) (cs : List C) → IsInOrder number name xs → list_any (touches xs m) cs ≡ false
      → named name (put_all cs (without number (map changed cs) xs)) m ≡ named name xs m
  untouched xs m cs o far = all_same xs (without number (map changed cs) xs) m cs o (gone_same xs m cs o far) far

  -- ---- under a name that a change touches
  module _ (same : X → X → Bool) (decide : (a b : X) → Decides (same a b) (a ≡ b)) where
    found_one : (a b : Option X) → found_same same a b ≡ true → b ≡ a
    found_one None None h = refl
    found_one None (Some b) h = absurd (true≢false (sym h))
    found_one (Some a) None h = absurd (true≢false (sym h))
    found_one (Some a) (Some b) h = ap Some (sym ((decide a b).0 h))

    found_itself : (a : Option X) → found_same same a a ≡ true
    found_itself None = refl
    found_itself (Some a) = (decide a a).1 refl

    name_kept : (xs ys : List X) (n m : List ℕ) → keeps_name name same xs ys n ≡ true → bytes_eq n m ≡ true → Same xs ys m
    name_kept xs ys n m kept e = subst (Same xs ys) (same_name n m e) (found_one (named name xs n) (named name ys n) kept)

    name_of_kept : (xs ys : List X) (m : List ℕ) (o : Option X) → keeps_name_of name same xs ys o ≡ true → touches_of m o ≡ true → Same xs ys m
    name_of_kept xs ys m None kept e = absurd (true≢false (sym e))
    name_of_kept xs ys m (Some x) kept e = name_kept xs ys (name x) m kept e

    served_kept : (xs ys : List X) (m : List ℕ) (s : Option X) → keeps_served number name same xs ys s ≡ true → touches_served xs m s ≡ true → Same xs ys m
    served_kept xs ys m None kept e = absurd (true≢false (sym e))
    served_kept xs ys m (Some x) kept e =
        let parts = both_true (keeps_number number name same xs ys (number x)) (keeps_name name same xs ys (name x)) kept in
        either_true (touches_of m (numbered number xs (number x))) (bytes_eq (name x) m) e
        (name_of_kept xs ys m (numbered number xs (number x)) parts.0) (name_kept xs ys (name x) m parts.1)

    any_kept : (xs ys : List X) (m : List ℕ) (cs : List C) → list_all (λ c. keeps number name same xs ys (changed c) (served c)) cs ≡ true
        → list_any (touches xs m) cs ≡ true → Same xs ys m
    any_kept xs ys m [] kept e = absurd (true≢false (sym e))
    any_kept xs ys m (c ∷ cs) kept e =
        let parts = both_true (keeps number name same xs ys (changed c) (served c)) (list_all (λ d. keeps number name same xs ys (changed d) (served d)) cs) kept in
        let here = both_true (keeps_number number name same xs ys (changed c)) (keeps_served number name same xs ys (served c)) parts.0 in
        either_true (touches xs m c) (list_any (touches xs m) cs) e
        (λ f. either_true (touches_of m (numbered number xs (changed c))) (touches_served xs m (served c)) f
        (name_of_kept xs ys m (numbered number xs (changed c)) here.0) (served_kept xs ys m (served c) here.1))
        (any_kept xs ys m cs parts.1)

    -- the list is as before, where it is so under the names that the changes touch
    pub kept_all : (xs ys : List X) (cs : List C) → IsInOrder number name xs → IsInOrder number name ys → ys ≡ put_all cs (without number (map changed cs) xs)
        → list_all (λ c. keeps number name same xs ys (changed c) (served c)) cs ≡ true → ys ≡ xs
    kept_all xs ys cs o p all kept = one_list name ys xs p.names o.names (λ m. by m (list_any (touches xs m) cs) refl)
      where
        by : (m : List ℕ) (b : Bool) → list_any (touches xs m) cs ≡ b → Same xs ys m
        by m true e = any_kept xs ys m cs kept e
        by m false e = ap (λ zs. named name zs m) all ∙ all_same xs (without number (map changed cs) xs) m cs o (gone_same xs m cs o e) e

    -- and only there
    own_kept : (xs : List X) (o : Option X) → keeps_name_of name same xs xs o ≡ true
    own_kept xs None = refl
    own_kept xs (Some x) = found_itself (named name xs (name x))

    own_served : (xs : List X) (s : Option X) → keeps_served number name same xs xs s ≡ true
    own_served xs None = refl
    own_served xs (Some x) = λ i. own_kept xs (numbered number xs (number x)) i && found_itself (named name xs (name x)) i

    own_all : (xs : List X) (cs : List C) → list_all (λ c. keeps number name same xs xs (changed c) (served c)) cs ≡ true
    own_all xs [] = refl
    own_all xs (c ∷ cs) = λ i. (own_kept xs (numbered number xs (changed c)) i && own_served xs (served c) i) && own_all xs cs i

    pub kept_only : (xs ys : List X) (cs : List C) → ys ≡ xs → list_all (λ c. keeps number name same xs ys (changed c) (served c)) cs ≡ true
    kept_only xs ys cs e = subst (λ zs. list_all (λ c. keeps number name same xs zs (changed c) (served c)) cs ≡ true) (sym e) (own_all xs cs)

  -- the order stays
  put_keeps_order : (x : X) (xs : List X) → IsInOrder number name xs → IsInOrder number name (put_in number name x xs)
  put_keeps_order x xs o =
      let fewer = without_number number (number x) xs in
      subst (IsInOrder number name) (put_both number name x xs)
      (put_order number name x (without_name name (name x) fewer) (no_name_left number name fewer (name x)) (no_number_left number name xs (name x) (number x))
      (kept_order number name (λ y. not (bytes_eq (name y) (name x))) fewer (kept_order number name (λ y. not (number y == number x)) xs o)))

  puts_keep_order : (cs : List C) (xs : List X) → IsInOrder number name xs → IsInOrder number name (put_all cs xs)
  puts_keep_order [] xs o = o
  puts_keep_order (c ∷ cs) xs o = puts_keep_order cs (put_one (served c) xs) (by (served c))
    where
      by : (s : Option X) → IsInOrder number name (put_one s xs)
      by None = o
      by (Some x) = put_keeps_order x xs o

  pub changes_keep_order : (cs : List C) (xs : List X) → IsInOrder number name xs → IsInOrder number name (put_all cs (without number (map changed cs) xs))
  changes_keep_order cs xs o = puts_keep_order cs (without number (map changed cs) xs) (kept_order number name (λ x. not (has_number (number x) (map changed cs))) xs o)

  -- ---- the numbers go one after the other
  pub without_more : (c : C) (cs : List C) (xs : List X) → without number (map changed cs) (without_number number (changed c) xs) ≡ without number (map changed (c ∷ cs)) xs
  without_more c cs [] = refl
  without_more c cs (x ∷ xs) = by (number x == changed c) (changed c == number x) (has_number (number x) (map changed cs)) refl refl (without_more c cs xs)
    where
      by : (a b d : Bool) → (number x == changed c) ≡ a → (changed c == number x) ≡ b
          → without number (map changed cs) (without_number number (changed c) xs) ≡ without number (map changed (c ∷ cs)) xs
          → without number (map changed cs) (cond (not a) (x ∷ without_number number (changed c) xs) (without_number number (changed c) xs))
          ≡ cond (not (b || has_number (number x) (map changed cs))) (x ∷ without number (map changed (c ∷ cs)) xs) (without number (map changed (c ∷ cs)) xs)
      by true true d e f rest = rest
      by true false d e f rest = absurd (true≢false (sym e ∙ other_way (λ m n. m == n) numbers_decide number (changed c) (number x) f))
      by false true d e f rest = absurd (true≢false (sym f ∙ other_way (λ m n. m == n) numbers_decide number (number x) (changed c) e))
      by false false d e f rest = λ i. cond (not (has_number (number x) (map changed cs))) (x ∷ rest i) (rest i)

  pub without_none : (xs : List X) → without number (map changed []) xs ≡ xs
  without_none [] = refl
  without_none (x ∷ xs) = ap (λ ys. x ∷ ys) (without_none xs)
