-- Lists under the tests of tidying: what holds of what each element that they contain gives,
-- and filters one after another.
use Rattle.std.proofs.Common.{◌≡◌, Bool, true, false, ◌&&◌, ◌||◌, List, [], ◌∷◌, map, filter, Some, refl, sym, ap, ◌∙◌}
use Rattle.std.specs.List.{All, AllByRecursion as ByRecursion, Contains, find, list_any, list_all}
use Rattle.std.specs.Option.{IfSome}
use Rattle.std.proofs.lemmas.Bool.{false≢true, cond_both}
use Rattle.std.proofs.lemmas.Option.{IfSome_then}
use Rattle.std.proofs.lemmas.List.Elements.{All-nil, All-cons, All-contains, All-contains_itself, All-filter, All-map, All-weaker, Contains-append_left, Contains-append_right, Contains-push, filter_passes, recursion_from_All}
use Rattle.std.proofs.lemmas.List.Folds.{list_any_none, list_any_at}

-- what holds of each element that a list contains holds of all
pub all_of : {X : Type 0} (P : X → Type 0) (xs : List X) → ((x : X) → Contains xs x → P x) → All P xs
all_of P xs each = All-weaker (Contains xs) P each xs (All-contains_itself xs)

-- an element that passes the test
pub any_at : {X : Type 0} (p : X → Bool) (xs : List X) (x : X) → Contains xs x → p x ≡ true → list_any p xs ≡ true
any_at p xs x there h = list_any_at p xs there.0 x there.1 (ap p there.2 ∙ h)

-- no element passes the test
pub any_none : {X : Type 0} (p : X → Bool) (xs : List X) → ((x : X) → Contains xs x → p x ≡ false) → list_any p xs ≡ false
any_none p xs each = list_any_none p xs (all_of (λ x. p x ≡ false) xs each)

agree_by : {X : Type 0} (p q : X → Bool) (xs : List X) → ByRecursion (λ x. p x ≡ q x) xs → list_all p xs ≡ list_all q xs
agree_by p q [] same = refl
agree_by p q (x ∷ xs) same = ap (λ b. b && list_all p xs) same.0 ∙ ap (λ b. q x && b) (agree_by p q xs same.1)

-- two tests that agree at each element
pub all_agree : {X : Type 0} (p q : X → Bool) (xs : List X) → ((x : X) → Contains xs x → p x ≡ q x) → list_all p xs ≡ list_all q xs
all_agree p q xs each = agree_by p q xs (recursion_from_All (λ x. p x ≡ q x) xs (all_of (λ x. p x ≡ q x) xs each))

same_by : {X : Type 0} (f : X → X) (xs : List X) → ByRecursion (λ x. f x ≡ x) xs → map f xs ≡ xs
same_by f [] same = refl
same_by f (x ∷ xs) same = λ i. same.0 i ∷ same_by f xs same.1 i

-- a change that leaves each element as it is
pub map_same : {X : Type 0} (f : X → X) (xs : List X) → ((x : X) → Contains xs x → f x ≡ x) → map f xs ≡ xs
map_same f xs each = same_by f xs (recursion_from_All (λ x. f x ≡ x) xs (all_of (λ x. f x ≡ x) xs each))

within_by : {X : Type 0} (p q : X → Bool) (x : X) (xs : List X) (a b : Bool) → p x ≡ a → q x ≡ b
    → (p x ≡ true → q x ≡ true)
    → filter p (filter q xs) ≡ filter p xs
    → filter p (filter q (x ∷ xs)) ≡ filter p (x ∷ xs)
within_by p q x xs true true hp hq so more = simp (hp, hq) (ap (λ ys. x ∷ ys) more)
within_by p q x xs true false hp hq so more = let h : q x ≡ true = so hp in cc
within_by p q x xs false true hp hq so more = simp (hp, hq) more
within_by p q x xs false false hp hq so more = simp (hp, hq) more

-- where a test lets through no more than another, what the other leaves of a list is as good as the list
pub filter_within : {X : Type 0} (p q : X → Bool) → ((x : X) → p x ≡ true → q x ≡ true)
    → (xs : List X) → filter p (filter q xs) ≡ filter p xs
filter_within p q so [] = refl
filter_within p q so (x ∷ xs) = within_by p q x xs (p x) (q x) refl refl (so x) (filter_within p q so xs)

-- a filter by the same test twice is once
pub filter_twice : {X : Type 0} (p : X → Bool) (xs : List X) → filter p (filter p xs) ≡ filter p xs
filter_twice p xs = filter_within p p (λ x h. h) xs

of_map_by : {X Y : Type 0} (p : Y → Bool) (f : X → Y) (q : X → Bool) (x : X) (xs : List X) (b : Bool) → q x ≡ b
    → list_any p (map f (filter q xs)) ≡ list_any (λ y. q y && p (f y)) xs
    → list_any p (map f (filter q (x ∷ xs))) ≡ list_any (λ y. q y && p (f y)) (x ∷ xs)
of_map_by p f q x xs true h more = simp h (ap (λ b. p (f x) || b) more)
of_map_by p f q x xs false h more = simp h more

-- whether some of what is made of the elements that a filter leaves passes the test
pub any_of_map : {X Y : Type 0} (p : Y → Bool) (f : X → Y) (q : X → Bool) (xs : List X)
    → list_any p (map f (filter q xs)) ≡ list_any (λ x. q x && p (f x)) xs
any_of_map p f q [] = refl
any_of_map p f q (x ∷ xs) = of_map_by p f q x xs (q x) refl (any_of_map p f q xs)

-- the first element of a list, and those behind it
pub first_in : {X : Type 0} (x : X) (xs : List X) → Contains (x ∷ xs) x
first_in x xs = Contains-append_left (x ∷ []) xs x (Contains-push [] x)

pub rest_in : {X : Type 0} (first : X) (xs : List X) (x : X) → Contains xs x → Contains (first ∷ xs) x
rest_in first xs x there = Contains-append_right (first ∷ []) xs x there

-- what is found is an element that passes the test
pub found_in : {X : Type 0} (test : X → Bool) (xs : List X) → IfSome (find test xs) (λ x. Contains xs x × (test x ≡ true))
found_in test [] = tt
found_in test (first ∷ xs) =
    cond_both (test first) (Some first) (find test xs) (λ o. IfSome o (λ x. Contains (first ∷ xs) x × (test x ≡ true)))
    (λ passes. (first_in first xs, passes))
    (λ fails. IfSome_then (find test xs) (found_in test xs) (λ x h. (rest_in first xs x h.0, h.1)))

-- what a filter leaves was there, and passes
pub left_in : {X : Type 0} (test : X → Bool) (xs : List X) (x : X) → Contains (filter test xs) x → Contains xs x × (test x ≡ true)
left_in test xs x there = (
  All-contains (Contains xs) (filter test xs) x (All-filter test (Contains xs) xs (All-contains_itself xs)) there,
  All-contains (λ y. test y ≡ true) (filter test xs) x (filter_passes test xs) there,
)

-- what passes is among what a filter leaves
pub passing_in : {X : Type 0} (test : X → Bool) (xs : List X) → All (λ x. test x ≡ true → Contains (filter test xs) x) xs
passing_in test [] = All-nil _
passing_in test (first ∷ xs) =
    let old : All (λ x. test x ≡ true → Contains (filter test xs) x) xs = passing_in test xs in
    cond_both (test first) (first ∷ filter test xs) (filter test xs) (λ left. All (λ x. test x ≡ true → Contains left x) (first ∷ xs))
    (λ passes. All-cons (λ x. test x ≡ true → Contains (first ∷ filter test xs) x) first xs (λ is. first_in first (filter test xs))
    (All-weaker (λ x. test x ≡ true → Contains (filter test xs) x) (λ x. test x ≡ true → Contains (first ∷ filter test xs) x)
    (λ x so is. rest_in first (filter test xs) x (so is)) xs old))
    (λ fails. All-cons (λ x. test x ≡ true → Contains (filter test xs) x) first xs (λ is. absurd (false≢true (sym fails ∙ is))) old)

made_each : {X Y : Type 0} (f : X → Y) (xs : List X) → All (λ y. Contains (map f xs) (f y)) xs
made_each f [] = All-nil _
made_each f (first ∷ xs) =
    All-cons (λ y. Contains (map f (first ∷ xs)) (f y)) first xs (first_in (f first) (map f xs))
    (All-weaker (λ y. Contains (map f xs) (f y)) (λ y. Contains (map f (first ∷ xs)) (f y)) (λ y there. rest_in (f first) (map f xs) (f y) there) xs
    (made_each f xs))

-- what is made of an element is among what is made of all
pub made_in : {X Y : Type 0} (f : X → Y) (xs : List X) (x : X) → Contains xs x → Contains (map f xs) (f x)
made_in f xs x there =
    All-contains (λ y. Contains (map f xs) (f y)) xs x (made_each f xs) there

-- and what is among those is made of an element
pub made_from : {X Y : Type 0} (f : X → Y) (xs : List X) (y : Y) → Contains (map f xs) y → (x : X) × Contains xs x × (f x ≡ y)
made_from {X = X} f xs y there =
    All-contains (λ z. (x : X) × Contains xs x × (f x ≡ z)) (map f xs) y
    (All-map (λ z. (x : X) × Contains xs x × (f x ≡ z)) f xs
    (all_of (λ x. (w : X) × Contains xs w × (f w ≡ f x)) xs (λ x among. (x, among, refl))))
    there
