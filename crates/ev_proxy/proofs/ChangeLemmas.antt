-- What a publication makes of the last picture: where each change says what is found of its number, and of all other
-- numbers the same is found as before, that is what is found.
use Rattle.std.proofs.Common.{◌≡◌, ◌∙◌, ℕ, Bool, true, false, not, ◌||◌, ◌==◌, cond, List, [], ◌∷◌, Option, Some, None, find, filter, map, refl, sym, ap}
use Rattle.std.proofs.Math.Bool.{or-false}
use Rattle.std.specs.List.{AllByRecursion}
use Rattle.ev_model.specs.Picture.{has_number}
use Rattle.ev_proxy.proofs.OrderLemmas.{AreInOrder, all_so, left_found, number_same, number_turned, numbered, order_left, pass_same, all_pass, put_among, put_in, same_lists}

or_again : (a b c : Bool) → ((a || b) || c) ≡ (a || (b || c))
or_again true b c = refl
or_again false b c = refl

-- of what is found by a test, the test is true
passes : {X : Type 0} (q : X → Bool) (ys : List X) (x : X) → find q ys ≡ Some x → q x ≡ true
passes q [] x is = absurd (cc is)
passes q (y ∷ ys) x is = by (q y) refl is (passes q ys x)
  where
    same : Some y ≡ Some x → y ≡ x
    same e = cc e

    by : (t : Bool) → q y ≡ t → cond t (Some y) (find q ys) ≡ Some x → (find q ys ≡ Some x → q x ≡ true) → q x ≡ true
    by true pass e rest = ap q (sym (same e)) ∙ pass
    by false pass e rest = rest e

-- where none is found, each fails
each_fails : {X : Type 0} (q : X → Bool) (ys : List X) → find q ys ≡ None → AllByRecursion (λ y. q y ≡ false) ys
each_fails q [] none = tt
each_fails q (y ∷ ys) none = by (q y) refl none (each_fails q ys)
  where
    by : (t : Bool) → q y ≡ t → cond t (Some y) (find q ys) ≡ None → (find q ys ≡ None → AllByRecursion (λ z. q z ≡ false) ys) → (q y ≡ false) × AllByRecursion (λ z. q z ≡ false) ys
    by true pass e rest = absurd (cc e)
    by false pass e rest = (pass, rest e)

every : {X : Type 0} (P : X → Type 0) → ((x : X) → P x) → (xs : List X) → AllByRecursion P xs
every P each [] = tt
every P each (x ∷ xs) = (each x, every P each xs)

module _ {X C : Type 0} (name : X → List ℕ) (number : X → ℕ) (changed : C → ℕ) (served : C → Option X) (put : List C → List X → List X)
    (done : (xs : List X) → put [] xs ≡ xs)
    (gone : (c : C) (cs : List C) (xs : List X) → served c ≡ None → put (c ∷ cs) xs ≡ put cs xs)
    (came : (c : C) (cs : List C) (x : X) (xs : List X) → served c ≡ Some x → put (c ∷ cs) xs ≡ put cs (put_in name number x xs)) where
  -- each of these says what is found of its number
  abbrev pub TellAll : List X → List C → Type 0
  TellAll ys cs = AllByRecursion (λ c. served c ≡ numbered name number ys (changed c)) cs

  abbrev left : (ℕ → Bool) → List X → List X
  left p ys = filter (λ y. p (number y)) ys

  -- those that serve now are put among the others of a list in order
  puts : (ys : List X) → AreInOrder name number ys → (cs : List C) → TellAll ys cs → (p : ℕ → Bool)
      → put cs (left p ys) ≡ left (λ n. p n || has_number n (map changed cs)) ys
  puts ys order [] tell p = done (left p ys) ∙ pass_same (λ y. p (number y)) (λ y. p (number y) || false) ys (every (λ y. p (number y) ≡ (p (number y) || false)) (λ y. sym (or-false (p (number y)))) ys)
  puts ys order (c ∷ cs) tell p =
      by (served c) refl tell.0
      ∙ puts ys order cs tell.1 (λ n. p n || (n == changed c))
      ∙ pass_same (λ y. (p (number y) || (number y == changed c)) || has_number (number y) (map changed cs)) (λ y. p (number y) || has_number (number y) (map changed (c ∷ cs))) ys
      (every (λ y. ((p (number y) || (number y == changed c)) || has_number (number y) (map changed cs)) ≡ (p (number y) || has_number (number y) (map changed (c ∷ cs))))
      (λ y. or_again (p (number y)) (number y == changed c) (has_number (number y) (map changed cs)) ∙ ap (λ t. p (number y) || (t || has_number (number y) (map changed cs))) (number_turned (number y) (changed c))) ys)
    where
      by : (found : Option X) → served c ≡ found → served c ≡ numbered name number ys (changed c) → put (c ∷ cs) (left p ys) ≡ put cs (left (λ n. p n || (n == changed c)) ys)
      by None is tells =
          gone c cs (left p ys) is
          ∙ ap (put cs) (pass_same (λ y. p (number y)) (λ y. p (number y) || (number y == changed c)) ys
          (all_so (λ y. (number y == changed c) ≡ false) (λ y. p (number y) ≡ (p (number y) || (number y == changed c))) ys
          (λ y other. sym (ap (λ t. p (number y) || t) other ∙ or-false (p (number y)))) (each_fails (λ y. number y == changed c) ys (sym tells ∙ is))))
      by (Some x) is tells =
          let found : numbered name number ys (changed c) ≡ Some x = sym tells ∙ is in
          let at : number x ≡ changed c = number_same (number x) (changed c) (passes (λ y. number y == changed c) ys x found) in
          came c cs x (left p ys) is
          ∙ ap (put cs) (put_among name number p x ys order (ap (numbered name number ys) at ∙ found) ∙ (λ i. left (λ n. p n || (n == at i)) ys))

  -- what is made of one list is the other one
  pub changes_made : (xs ys : List X) (cs : List C) → AreInOrder name number xs → AreInOrder name number ys → TellAll ys cs
      → ((n : ℕ) → has_number n (map changed cs) ≡ false → numbered name number xs n ≡ numbered name number ys n)
      → put cs (filter (λ x. not (has_number (number x) (map changed cs))) xs) ≡ ys
  changes_made xs ys cs first second tell same =
      ap (put cs) (same_lists name number (left p xs) (left p ys) (order_left name number (λ x. p (number x)) xs first) (order_left name number (λ y. p (number y)) ys second)
      (λ n. left_found name number p n xs ∙ over n (has_number n (map changed cs)) refl ∙ sym (left_found name number p n ys)))
      ∙ puts ys second cs tell p
      ∙ all_pass (λ y. p (number y) || has_number (number y) (map changed cs)) ys (every (λ y. (p (number y) || has_number (number y) (map changed cs)) ≡ true) (λ y. whole (has_number (number y) (map changed cs))) ys)
    where
      p : ℕ → Bool
      p n = not (has_number n (map changed cs))

      whole : (t : Bool) → (not t || t) ≡ true
      whole true = refl
      whole false = refl

      over : (n : ℕ) (t : Bool) → has_number n (map changed cs) ≡ t → cond (not t) (numbered name number xs n) None ≡ cond (not t) (numbered name number ys n) None
      over n true is = refl
      over n false is = same n is
