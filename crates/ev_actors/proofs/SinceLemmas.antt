-- Those elements of a list that pass a test and have none after them that ends them.
use Rattle.std.proofs.Common.{◌≡◌, Bool, true, false, not, ◌&&◌, ◌||◌, if◌then◌else◌, List, [], ◌∷◌, ◌++◌, filter, refl, ap, sym, ◌∙◌, subst, append_assoc}
use Rattle.std.proofs.Math.Bool.{or-false, or-true}
use Rattle.std.specs.List.{list_any}
use Rattle.std.proofs.lemmas.List.Folds.{list_any-append}
use Rattle.ev_model_laws.proofs.OperationLists.{IsIn}
use Rattle.std.proofs.Common.{inl, inr}

-- those that join, with none after them that ends
abbrev pub last_run : {X : Type 0} → (X → Bool) → (X → Bool) → List X → List X
last_run joins ends [] = []
last_run joins ends (x ∷ xs) = if joins x && not (list_any ends xs) then x ∷ last_run joins ends xs else last_run joins ends xs

and_none : (a : Bool) → (a && false) ≡ false
and_none true = refl
and_none false = refl

any_same : {X : Type 0} (p : X → Bool) (xs : List X) (x : X) → p x ≡ false → list_any p (xs ++ x ∷ []) ≡ list_any p xs
any_same p xs x h =
    list_any-append p xs (x ∷ []) ∙ ap (λ b. list_any p xs || (b || false)) h ∙ or-false (list_any p xs)

any_more : {X : Type 0} (p : X → Bool) (xs : List X) (x : X) → p x ≡ true → list_any p (xs ++ x ∷ []) ≡ true
any_more p xs x h =
    list_any-append p xs (x ∷ []) ∙ ap (λ b. list_any p xs || (b || false)) h ∙ or-true (list_any p xs)

-- one more that neither joins nor ends
pub run_same : {X : Type 0} (joins ends : X → Bool) (xs : List X) (x : X) → joins x ≡ false → ends x ≡ false
    → last_run joins ends (xs ++ x ∷ []) ≡ last_run joins ends xs
run_same joins ends [] x out still = ap (λ b. if b && true then x ∷ [] else []) out
run_same joins ends (y ∷ xs) x out still =
    ap (λ b. if joins y && not b then y ∷ last_run joins ends (xs ++ x ∷ []) else last_run joins ends (xs ++ x ∷ [])) (any_same ends xs x still)
    ∙ ap (λ r. if joins y && not (list_any ends xs) then y ∷ r else r) (run_same joins ends xs x out still)

put_behind : {X : Type 0} (b : Bool) (y : X) (r s : List X) → (if b then y ∷ (r ++ s) else (r ++ s)) ≡ (if b then y ∷ r else r) ++ s
put_behind true y r s = refl
put_behind false y r s = refl

-- one more that joins
pub run_joined : {X : Type 0} (joins ends : X → Bool) (xs : List X) (x : X) → joins x ≡ true → ends x ≡ false
    → last_run joins ends (xs ++ x ∷ []) ≡ last_run joins ends xs ++ x ∷ []
run_joined joins ends [] x is still = ap (λ b. if b && true then x ∷ [] else []) is
run_joined joins ends (y ∷ xs) x is still =
    ap (λ b. if joins y && not b then y ∷ last_run joins ends (xs ++ x ∷ []) else last_run joins ends (xs ++ x ∷ [])) (any_same ends xs x still)
    ∙ ap (λ r. if joins y && not (list_any ends xs) then y ∷ r else r) (run_joined joins ends xs x is still)
    ∙ put_behind (joins y && not (list_any ends xs)) y (last_run joins ends xs) (x ∷ [])

-- one more that ends
pub run_ended : {X : Type 0} (joins ends : X → Bool) (xs : List X) (x : X) → joins x ≡ false → ends x ≡ true
    → last_run joins ends (xs ++ x ∷ []) ≡ []
run_ended joins ends [] x out ended = ap (λ b. if b && true then x ∷ [] else []) out
run_ended joins ends (y ∷ xs) x out ended =
    ap (λ b. if joins y && not b then y ∷ last_run joins ends (xs ++ x ∷ []) else last_run joins ends (xs ++ x ∷ [])) (any_more ends xs x ended)
    ∙ ap (λ b. if b then y ∷ last_run joins ends (xs ++ x ∷ []) else last_run joins ends (xs ++ x ∷ [])) (and_none (joins y))
    ∙ run_ended joins ends xs x out ended

run_by : {X : Type 0} (joins ends keeps : X → Bool) (all front xs : List X) → front ++ xs ≡ all
    → ((before behind : List X) (x : X) → before ++ x ∷ behind ≡ all → keeps x ≡ (joins x && not (list_any ends behind)))
    → filter keeps xs ≡ last_run joins ends xs
run_by joins ends keeps all front [] is so = refl
run_by joins ends keeps all front (x ∷ xs) is so =
    ap (λ b. if b then x ∷ filter keeps xs else filter keeps xs) (so front xs x is)
    ∙ ap (λ r. if joins x && not (list_any ends xs) then x ∷ r else r)
    (run_by joins ends keeps all (front ++ x ∷ []) xs (append_assoc front (x ∷ []) xs ∙ is) so)

-- a filter keeps them, where it keeps what joins and has none after it that ends
pub run_is : {X : Type 0} (joins ends keeps : X → Bool) (all : List X)
    → ((before behind : List X) (x : X) → before ++ x ∷ behind ≡ all → keeps x ≡ (joins x && not (list_any ends behind)))
    → filter keeps all ≡ last_run joins ends all
run_is joins ends keeps all so = run_by joins ends keeps all [] all refl so

-- a test of a list in four parts of which only the third counts
pub any_third : {X : Type 0} (p q : X → Bool) (front : List X) (x : X) (middle back : List X)
    → list_any p front ≡ false → p x ≡ false → list_any p middle ≡ list_any q middle → list_any p back ≡ false
    → list_any p (front ++ x ∷ (middle ++ back)) ≡ list_any q middle
any_third p q front x middle back one other same last =
    list_any-append p front (x ∷ (middle ++ back))
    ∙ ap (λ b. b || (p x || list_any p (middle ++ back))) one
    ∙ ap (λ b. b || list_any p (middle ++ back)) other
    ∙ list_any-append p middle back
    ∙ ap (λ b. list_any p middle || b) last
    ∙ or-false (list_any p middle)
    ∙ same

-- two tests that agree on the list
pub any_alike : {X : Type 0} (p q : X → Bool) (xs : List X) → ((x : X) → IsIn x xs → p x ≡ q x) → list_any p xs ≡ list_any q xs
any_alike p q [] each = refl
any_alike p q (x ∷ xs) each =
    ap (λ b. b || list_any p xs) (each x (inl refl)) ∙ ap (λ b. q x || b) (any_alike p q xs (λ y is. each y (inr is)))

kept_by : {X : Type 0} (p : X → Bool) (x y : X) (ys : List X) (b : Bool) → IsIn x (filter p ys) → IsIn x (if b then y ∷ filter p ys else filter p ys)
kept_by p x y ys true is = inr is
kept_by p x y ys false is = is

-- what is in the list and passes is kept
pub in_kept : {X : Type 0} (p : X → Bool) (x : X) (xs : List X) → IsIn x xs → p x ≡ true → IsIn x (filter p xs)
in_kept p x [] is h = absurd is
in_kept p x (y ∷ ys) (inl e) h = subst (λ b. IsIn x (if b then y ∷ filter p ys else filter p ys)) (sym (ap p e ∙ h)) (inl e)
in_kept p x (y ∷ ys) (inr is) h = kept_by p x y ys (p y) (in_kept p x ys is h)

-- where the first of two tests holds, both others are known
pub last_two : (j c d e : Bool) → (j ≡ true → c ≡ true) → (j ≡ true → d ≡ e) → (j && c && d) ≡ (j && e)
last_two true c d e one other = ap (λ b. b && d) (one refl) ∙ other refl
last_two false c d e one other = refl

-- where the second test holds, the third fails
pub third_if : (a b c d : Bool) → (b ≡ true → c ≡ false) → (a && b && c && d) ≡ false
third_if true true c d so = ap (λ e. e && d) (so refl)
third_if true false c d so = refl
third_if false b c d so = refl

fourth_by : (c d : Bool) → d ≡ false → (c && d) ≡ false
fourth_by true d h = h
fourth_by false d h = refl

-- where the second test holds, the fourth fails
pub fourth_if : (a b c d : Bool) → (b ≡ true → d ≡ false) → (a && b && c && d) ≡ false
fourth_if true true c d so = fourth_by c d (so refl)
fourth_if true false c d so = refl
fourth_if false b c d so = refl

-- where the first two hold, so do the others
pub first_two : (a b c d : Bool) → (b ≡ true → c ≡ true) → (b ≡ true → d ≡ true) → (a && b && c && d) ≡ (a && b)
first_two true true c d one other = ap (λ e. e && d) (one refl) ∙ other refl
first_two true false c d one other = refl
first_two false b c d one other = refl
