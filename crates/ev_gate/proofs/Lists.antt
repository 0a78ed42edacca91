-- Lists that are read by places, lists of commits, and how many elements pass a test.
use Rattle.std.proofs.Common.{◌≡◌, ◌≢◌, ◌⊎◌, ℕ, zero, suc, ◌+◌, ◌<◌, ◌≤◌, Bool, true, false, List, [], ◌∷◌, ◌++◌, length, set, eqb, cond, All, refl, sym, ap, ◌∙◌, inl, inr, ⊎_elim, arith, append_assoc, Some}
use Rattle.std.specs.Prelude.{slice_get}
use Rattle.std.proofs.lemmas.Bool.{ne_eqb, eq-eqb, cases_lt}
use Rattle.std.proofs.lemmas.List.{append-nil}
use Rattle.std.proofs.lemmas.List.Elements.{filter-append}
use mathlib.Core.Option.{some, some-injective, some-ne-none}
use lib.ListN.{get_elem?}
use Rattle.ev_gate.specs.History.{commits_by, Continues, GrowsWithout}
use Rattle.ev_gate.specs.Rule.{count_where, NoneAbove}

module _ {A : Type 0} where
  pub at_below : (l : List A) (i : ℕ) (a : A) → get_elem? l i ≡ some a → i < length l
  at_below [] i a e = absurd (some-ne-none a (sym e))
  at_below (x ∷ xs) zero a e = omega arith
  at_below (x ∷ xs) (suc i) a e = let h : i < length xs = at_below xs i a e in omega arith

  -- a list with one more has it at its end
  pub at_end : (l : List A) (a b : A) (j : ℕ) → get_elem? (l ++ a ∷ []) j ≡ some b → (get_elem? l j ≡ some b) ⊎ ((j ≡ length l) × (a ≡ b))
  at_end [] a b zero e = inr (refl, some-injective a b e)
  at_end [] a b (suc j) e = absurd (some-ne-none b (sym e))
  at_end (x ∷ xs) a b zero e = inl e
  at_end (x ∷ xs) a b (suc j) e = ⊎_elim inl (λ t. inr (ap suc t.0, t.1)) (at_end xs a b j e)

  pub Some-injective : (a b : A) → Some a ≡ Some b → a ≡ b
  Some-injective a b e = cc

  pub get_at_end : (xs : List A) (x y : A) (k : ℕ) → slice_get (xs ++ x ∷ []) k ≡ Some y → (slice_get xs k ≡ Some y) ⊎ ((k ≡ length xs) × (x ≡ y))
  get_at_end [] x y zero e = inr (refl, Some-injective x y e)
  get_at_end [] x y (suc k) e = absurd (cc)
  get_at_end (z ∷ xs) x y zero e = inl e
  get_at_end (z ∷ xs) x y (suc k) e = ⊎_elim inl (λ t. inr (ap suc t.0, t.1)) (get_at_end xs x y k e)

  pub same_there : (l : List A) (i : ℕ) (a b : A) → get_elem? l i ≡ some a → get_elem? l i ≡ some b → a ≡ b
  same_there l i a b p q = some-injective a b (sym p ∙ q)

  pub no_rest : (xs ys : List A) → xs ++ ys ≡ [] → ys ≡ []
  no_rest [] ys e = e
  no_rest (x ∷ xs) ys e = absurd (cc)

module _ {C : Type 0} where
  pub commits_by-append : (n : ℕ) (xs ys : List (ℕ × C)) → commits_by n (xs ++ ys) ≡ commits_by n xs ++ commits_by n ys
  commits_by-append n xs ys = filter-append (λ c. eqb c.0 n) xs ys

  pub commits_by-other : (n m : ℕ) (c : C) → n ≢ m → commits_by n ((m, c) ∷ []) ≡ []
  commits_by-other n m c apart = ap (λ (b : Bool). cond b ((m, c) ∷ []) []) (ne_eqb m n (λ e. apart (sym e)))

  pub grows_more : (n : ℕ) (earlier later new : List (ℕ × C)) → GrowsWithout n earlier later → commits_by n new ≡ [] → GrowsWithout n earlier (later ++ new)
  grows_more n earlier later new g none =
      (g.0 ++ new, ap (λ l. l ++ new) g.1 ∙ append_assoc earlier g.0 new, commits_by-append n g.0 new ∙ ap (λ l. l ++ commits_by n new) g.2 ∙ none)

  pub none_more : (n : ℕ) (earlier new : List (ℕ × C)) → commits_by n earlier ≡ [] → commits_by n new ≡ [] → commits_by n (earlier ++ new) ≡ []
  none_more n earlier new p q = commits_by-append n earlier new ∙ ap (λ l. l ++ commits_by n new) p ∙ q

  -- what a seat has made no commit of, it has made none of a beginning of
  pub grows_from_none : (n m : ℕ) (earlier later : List (ℕ × C)) → GrowsWithout n earlier later → commits_by m later ≡ [] → GrowsWithout m earlier later
  grows_from_none n m earlier later g none = (g.0, g.1, no_rest (commits_by m earlier) (commits_by m g.0) (sym (commits_by-append m earlier g.0) ∙ sym (ap (commits_by m) g.1) ∙ none))

module _ {C : Type 0} where
  pub continues_more : (earlier later new : List (ℕ × C)) → Continues earlier later → Continues earlier (later ++ new)
  continues_more earlier later new c = (c.0 ++ new, ap (λ l. l ++ new) c.1 ∙ append_assoc earlier c.0 new)

  pub continues_itself : (xs : List (ℕ × C)) → Continues xs xs
  continues_itself xs = ([], sym (append-nil xs))

  -- a beginning of two lists is one of the first, or the first and a beginning of the second
  pub beginning_of_two : (earlier xs ys : List (ℕ × C)) → Continues earlier (xs ++ ys) → Continues earlier xs ⊎ ((b : List (ℕ × C)) × (earlier ≡ xs ++ b) × Continues b ys)
  beginning_of_two earlier [] ys c = inr (earlier, refl, c)
  beginning_of_two [] (x ∷ xs) ys c = inl (x ∷ xs, refl)
  beginning_of_two (e ∷ earlier) (x ∷ xs) ys c =
      let head : x ≡ e = cc in
      let tail : xs ++ ys ≡ earlier ++ c.0 = cc in
      ⊎_elim
      (λ (t : Continues earlier xs). inl (t.0, λ k. head k ∷ t.1 k))
      (λ (t : (b : List (ℕ × C)) × (earlier ≡ xs ++ b) × Continues b ys). inr (t.0, (λ k. sym head k ∷ t.1 k), t.2))
      (beginning_of_two earlier xs ys (c.0, tail))

  pub beginning_of_one : (earlier : List (ℕ × C)) (x : ℕ × C) → Continues earlier (x ∷ []) → (earlier ≡ []) ⊎ (earlier ≡ x ∷ [])
  beginning_of_one [] x c = inl refl
  beginning_of_one (e ∷ []) x c = inr (cc)
  beginning_of_one (e ∷ f ∷ earlier) x c = absurd (cc)

  module _ (version : List (ℕ × C) → ℕ) (since new : List (ℕ × C)) where
    -- the version does not fall while these commits are added
    pub none_above_more : NoneAbove version since → ((b : List (ℕ × C)) → Continues b new → version (since ++ b) ≤ version (since ++ new)) → NoneAbove version (since ++ new)
    none_above_more none rises earlier c = ⊎_elim
        (λ (t : Continues earlier since). let low : version earlier ≤ version since = none earlier t in let high : version (since ++ []) ≤ version (since ++ new) = rises [] (new, refl) in let same : version (since ++ []) ≡ version since = ap version (append-nil since) in omega arith)
        (λ (t : (b : List (ℕ × C)) × (earlier ≡ since ++ b) × Continues b new). let high : version (since ++ t.0) ≤ version (since ++ new) = rises t.0 t.2 in let same : version earlier ≡ version (since ++ t.0) = ap version t.1 in omega arith)
        (beginning_of_two earlier since new c)

-- where a seat from m on has made no commit, each commit's seat is below m
pub all_below : {C : Type 0} (m : ℕ) (xs : List (ℕ × C)) → ((n : ℕ) → m ≤ n → commits_by n xs ≡ []) → All (λ c. c.0 < m) xs
all_below m [] none = λ k d lt. absurd (omega arith)
all_below {C} m (x ∷ xs) none = each (all_below m xs (λ n le. no_rest (commits_by n (x ∷ [])) (commits_by n xs) (sym (commits_by-append n (x ∷ []) xs) ∙ none n le)))
  where
    own : commits_by x.0 (x ∷ []) ≡ x ∷ []
    own = ap (λ (b : Bool). cond b (x ∷ []) []) (eq-eqb x.0 x.0 refl)

    below : x.0 < m
    below = ⊎_elim (λ lt. lt) (λ le. absurd (let e : x ∷ commits_by x.0 xs ≡ [] = ap (λ l. l ++ commits_by x.0 xs) (sym own) ∙ sym (commits_by-append x.0 (x ∷ []) xs) ∙ none x.0 le in cc)) (cases_lt x.0 m)

    each : All (λ c. c.0 < m) xs → All (λ c. c.0 < m) (x ∷ xs)
    each later zero d lt = below
    each later (suc k) d lt = later k d (omega arith)

module _ {A : Type 0} (p : A → Bool) where
  abbrev pub one_if : A → ℕ
  one_if x = cond (p x) 1 0

  one_at_most : (b : Bool) → cond b 1 0 ≤ 1
  one_at_most true = omega arith
  one_at_most false = omega arith

  pub count_set : (xs : List A) (i : ℕ) (v w : A) → get_elem? xs i ≡ some v → count_where p (set xs i w) + one_if v ≡ count_where p xs + one_if w
  count_set [] i v w e = absurd (some-ne-none v (sym e))
  count_set (x ∷ xs) zero v w e = let same : one_if x ≡ one_if v = ap one_if (some-injective x v e) in omega arith
  count_set (x ∷ xs) (suc i) v w e = let h = count_set xs i v w e in omega arith

  pub count_end : (xs : List A) (w : A) → count_where p (xs ++ w ∷ []) ≡ count_where p xs + one_if w
  count_end [] w = omega arith
  count_end (x ∷ xs) w = let h = count_end xs w in omega arith

  pub count_few : (xs : List A) → count_where p xs ≤ length xs
  count_few [] = omega arith
  count_few (x ∷ xs) = let h = count_few xs in let k = one_at_most (p x) in omega arith

  one_passes : (xs : List A) (i : ℕ) (v : A) → get_elem? xs i ≡ some v → p v ≡ true → 1 ≤ count_where p xs
  one_passes [] i v e t = absurd (some-ne-none v (sym e))
  one_passes (x ∷ xs) zero v e t = let one : one_if x ≡ 1 = ap one_if (some-injective x v e) ∙ ap (λ b. cond b 1 0) t in omega arith
  one_passes (x ∷ xs) (suc i) v e t = let h = one_passes xs i v e t in omega arith

  pub two_pass : (xs : List A) (i j : ℕ) (v w : A) → get_elem? xs i ≡ some v → get_elem? xs j ≡ some w → i ≢ j → p v ≡ true → p w ≡ true → 2 ≤ count_where p xs
  two_pass [] i j v w e f apart t t' = absurd (some-ne-none v (sym e))
  two_pass (x ∷ xs) zero zero v w e f apart t t' = absurd (apart refl)
  two_pass (x ∷ xs) zero (suc j) v w e f apart t t' = let one : one_if x ≡ 1 = ap one_if (some-injective x v e) ∙ ap (λ b. cond b 1 0) t in let h = one_passes xs j w f t' in omega arith
  two_pass (x ∷ xs) (suc i) zero v w e f apart t t' = let one : one_if x ≡ 1 = ap one_if (some-injective x w f) ∙ ap (λ b. cond b 1 0) t' in let h = one_passes xs i v e t in omega arith
  two_pass (x ∷ xs) (suc i) (suc j) v w e f apart t t' = let h = two_pass xs i j v w e f (λ q. apart (ap suc q)) t t' in omega arith
