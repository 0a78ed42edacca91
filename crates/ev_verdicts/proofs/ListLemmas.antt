-- Lists that are searched and filtered.
use Rattle.std.proofs.Common.{◌≡◌, Bool, true, false, cond, ◌&&◌, ◌||◌, List, [], ◌∷◌, ◌++◌, filter, Some, refl, ap}
use Rattle.std.proofs.lemmas.Bool.{false≢true}
use Rattle.std.specs.List.{list_any, find, AllByRecursion}

any_filter_by : {X : Type 0} (p q : X → Bool) (x : X) (xs : List X) (b : Bool) → q x ≡ b
    → list_any p (filter q xs) ≡ list_any (λ y. q y && p y) xs
    → list_any p (filter q (x ∷ xs)) ≡ list_any (λ y. q y && p y) (x ∷ xs)
any_filter_by p q x xs true is more = simp (is) (ap (λ b. p x || b) more)
any_filter_by p q x xs false is more = simp (is) more

-- a search of what a filter leaves is a search of the whole
pub any_filter : {X : Type 0} (p q : X → Bool) (xs : List X) → list_any p (filter q xs) ≡ list_any (λ y. q y && p y) xs
any_filter p q [] = refl
any_filter p q (x ∷ xs) = any_filter_by p q x xs (q x) refl (any_filter p q xs)

-- tests that agree find the same
pub any_same : {X : Type 0} (p q : X → Bool) → ((x : X) → p x ≡ q x) → (xs : List X) → list_any p xs ≡ list_any q xs
any_same p q same [] = refl
any_same p q same (x ∷ xs) = λ i. same x i || any_same p q same xs i

pub any_of_none : {X : Type 0} (p : X → Bool) → ((x : X) → p x ≡ false) → (xs : List X) → list_any p xs ≡ false
any_of_none p none [] = refl
any_of_none p none (x ∷ xs) = (λ i. none x i || any_of_none p none xs i)

within_by : {X : Type 0} (p q : X → Bool) (x : X) (xs : List X) (a b : Bool) → p x ≡ a → q x ≡ b → (a ≡ true → b ≡ true)
    → filter p (filter q xs) ≡ filter p xs → filter p (filter q (x ∷ xs)) ≡ filter p (x ∷ xs)
within_by p q x xs true true pa qb implied more = simp (pa, qb) (ap (λ ys. x ∷ ys) more)
within_by p q x xs true false pa qb implied more = absurd (false≢true (implied refl))
within_by p q x xs false true pa qb implied more = simp (pa, qb) more
within_by p q x xs false false pa qb implied more = simp (pa, qb) more

-- a filter that lets through all that another does changes nothing of what that one leaves
pub filter_within : {X : Type 0} (p q : X → Bool) → ((x : X) → p x ≡ true → q x ≡ true) → (xs : List X) → filter p (filter q xs) ≡ filter p xs
filter_within p q implied [] = refl
filter_within p q implied (x ∷ xs) = within_by p q x xs (p x) (q x) refl refl (implied x) (filter_within p q implied xs)

all_kept_by : {X : Type 0} (q : X → Bool) (x : X) (xs : List X) → q x ≡ true → filter q xs ≡ xs → filter q (x ∷ xs) ≡ x ∷ xs
all_kept_by q x xs is more = simp (is) (ap (λ ys. x ∷ ys) more)

-- a filter that lets all through
pub all_kept : {X : Type 0} (q : X → Bool) (P : X → Type 0) → ((x : X) → P x → q x ≡ true) → (xs : List X) → AllByRecursion P xs → filter q xs ≡ xs
all_kept q P lets [] all = refl
all_kept q P lets (x ∷ xs) all = all_kept_by q x xs (lets x all.0) (all_kept q P lets xs all.1)

find_by : {X : Type 0} (p q : X → Bool) (x : X) (xs : List X) (a b : Bool) → p x ≡ a → q x ≡ b → (a ≡ true → b ≡ true)
    → find p (filter q xs) ≡ find p xs → find p (filter q (x ∷ xs)) ≡ find p (x ∷ xs)
find_by p q x xs true true pa qb implied more = simp (pa, qb) refl
find_by p q x xs true false pa qb implied more = absurd (false≢true (implied refl))
find_by p q x xs false true pa qb implied more = simp (pa, qb) more
find_by p q x xs false false pa qb implied more = simp (pa, qb) more

-- a filter that lets through all that a search may find changes no search
pub find_within : {X : Type 0} (p q : X → Bool) → ((x : X) → p x ≡ true → q x ≡ true) → (xs : List X) → find p (filter q xs) ≡ find p xs
find_within p q implied [] = refl
find_within p q implied (x ∷ xs) = find_by p q x xs (p x) (q x) refl refl (implied x) (find_within p q implied xs)

-- what a search passes over at the end changes nothing of it
pub find_before : {X : Type 0} (p : X → Bool) (y : X) → p y ≡ false → (xs : List X) → find p (xs ++ y ∷ []) ≡ find p xs
find_before p y isnt [] = simp (isnt) refl
find_before p y isnt (x ∷ xs) = ap (λ rest. cond (p x) (Some x) rest) (find_before p y isnt xs)
