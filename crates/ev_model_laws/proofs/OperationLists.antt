-- What holds of each element of a list, and of each two of them, and what a filter keeps.
use Rattle.std.proofs.Common.{◌≡◌, Bool, true, false, ◌&&◌, ◌||◌, ◌⊎◌, inl, inr, if◌then◌else◌, List, [], ◌∷◌, ◌++◌, map, filter, refl, ap, sym, ◌∙◌, subst}
use Rattle.std.specs.Prelude.{⊤}
use Rattle.std.proofs.lemmas.Bool.{or_right}
use Rattle.std.specs.List.{AllByRecursion as ByRecursion, flat_map, list_any}

-- x is one of the list
abbrev pub IsIn : {X : Type 0} → X → List X → Type 0
IsIn x [] = ⊥
IsIn x (y ∷ ys) = (y ≡ x) ⊎ IsIn x ys

-- each two of the list, in order
abbrev pub Pairs : {X : Type 0} → (X → X → Type 0) → List X → Type 0
Pairs R [] = ⊤
Pairs R (x ∷ xs) = ByRecursion (R x) xs × Pairs R xs

pub at_in : {X : Type 0} (P : X → Type 0) (x : X) (xs : List X) → ByRecursion P xs → IsIn x xs → P x
at_in P x [] all is = absurd is
at_in P x (y ∷ ys) all (inl e) = subst P e all.0
at_in P x (y ∷ ys) all (inr is) = at_in P x ys all.1 is

pub each_in : {X : Type 0} (P : X → Type 0) (xs : List X) → ((x : X) → IsIn x xs → P x) → ByRecursion P xs
each_in P [] each = tt
each_in P (x ∷ xs) each = (each x (inl refl), each_in P xs (λ y is. each y (inr is)))

pub in_front : {X : Type 0} (x : X) (xs ys : List X) → IsIn x xs → IsIn x (xs ++ ys)
in_front x [] ys is = absurd is
in_front x (y ∷ xs) ys (inl e) = inl e
in_front x (y ∷ xs) ys (inr is) = inr (in_front x xs ys is)

pub in_back : {X : Type 0} (x : X) (xs ys : List X) → IsIn x ys → IsIn x (xs ++ ys)
in_back x [] ys is = is
in_back x (y ∷ xs) ys is = inr (in_back x xs ys is)

pub in_parts : {X : Type 0} (x : X) (xs ys : List X) → IsIn x (xs ++ ys) → IsIn x xs ⊎ IsIn x ys
in_parts x [] ys is = inr is
in_parts x (y ∷ xs) ys (inl e) = inl (inl e)
in_parts x (y ∷ xs) ys (inr is) = more (in_parts x xs ys is)
  where
    more : IsIn x xs ⊎ IsIn x ys → IsIn x (y ∷ xs) ⊎ IsIn x ys
    more (inl front) = inl (inr front)
    more (inr back) = inr back

in_filter_by : {X : Type 0} (p : X → Bool) (x y : X) (ys : List X) (b : Bool) → p y ≡ b → (IsIn x (filter p ys) → IsIn x ys × (p x ≡ true))
    → IsIn x (if b then y ∷ filter p ys else filter p ys) → IsIn x (y ∷ ys) × (p x ≡ true)
in_filter_by p x y ys true h more (inl e) = (inl e, sym (ap p e) ∙ h)
in_filter_by p x y ys true h more (inr is) = let m : IsIn x ys × (p x ≡ true) = more is in (inr m.0, m.1)
in_filter_by p x y ys false h more is = let m : IsIn x ys × (p x ≡ true) = more is in (inr m.0, m.1)

-- what a filter keeps is in the list and passes
pub in_filter : {X : Type 0} (p : X → Bool) (x : X) (xs : List X) → IsIn x (filter p xs) → IsIn x xs × (p x ≡ true)
in_filter p x [] is = absurd is
in_filter p x (y ∷ ys) is = in_filter_by p x y ys (p y) refl (λ i. in_filter p x ys i) is

-- all pass, or none
pub filter_all : {X : Type 0} (p : X → Bool) (xs : List X) → ((x : X) → IsIn x xs → p x ≡ true) → filter p xs ≡ xs
filter_all p [] each = refl
filter_all p (x ∷ xs) each =
    ap (λ b. if b then x ∷ filter p xs else filter p xs) (each x (inl refl)) ∙ ap (λ ys. x ∷ ys) (filter_all p xs (λ y is. each y (inr is)))

pub filter_none : {X : Type 0} (p : X → Bool) (xs : List X) → ((x : X) → IsIn x xs → p x ≡ false) → filter p xs ≡ []
filter_none p [] each = refl
filter_none p (x ∷ xs) each =
    ap (λ b. if b then x ∷ filter p xs else filter p xs) (each x (inl refl)) ∙ filter_none p xs (λ y is. each y (inr is))

-- two tests that agree on the list keep the same
pub filter_alike : {X : Type 0} (p q : X → Bool) (xs : List X) → ((x : X) → IsIn x xs → p x ≡ q x) → filter p xs ≡ filter q xs
filter_alike p q [] each = refl
filter_alike p q (x ∷ xs) each =
    ap (λ b. if b then x ∷ filter p xs else filter p xs) (each x (inl refl))
    ∙ ap (λ ys. if q x then x ∷ ys else ys) (filter_alike p q xs (λ y is. each y (inr is)))

through_by : {X : Type 0} (p : X → Bool) (x : X) (xs ys : List X) (b c : Bool) → p x ≡ c → (c ≡ true → b ≡ true)
    → filter p xs ≡ filter p ys
    → (if c then x ∷ filter p xs else filter p xs) ≡ filter p (if b then x ∷ ys else ys)
through_by p x xs ys true c h so e = ap (λ d. if d then x ∷ filter p xs else filter p xs) (sym h) ∙ ap (λ zs. if p x then x ∷ zs else zs) e
through_by p x xs ys false true h so e = let no : false ≡ true = so refl in cc
through_by p x xs ys false false h so e = e

-- a filter over what a wider one keeps
pub filter_through : {X : Type 0} (p q : X → Bool) → ((x : X) → p x ≡ true → q x ≡ true) → (xs : List X) → filter p xs ≡ filter p (filter q xs)
filter_through p q so [] = refl
filter_through p q so (x ∷ xs) = through_by p x xs (filter q xs) (q x) (p x) refl (so x) (filter_through p q so xs)

two_by : {X : Type 0} (p : X → Bool) (x : X) (ys zs : List X) (b : Bool) → filter p ys ≡ zs
    → filter p (if b then x ∷ ys else ys) ≡ (if b && p x then x ∷ zs else zs)
two_by p x ys zs true e = ap (λ us. if p x then x ∷ us else us) e
two_by p x ys zs false e = e

-- two filters are one
pub filter_filter : {X : Type 0} (p q : X → Bool) (xs : List X) → filter p (filter q xs) ≡ filter (λ x. q x && p x) xs
filter_filter p q [] = refl
filter_filter p q (x ∷ xs) = two_by p x (filter q xs) (filter (λ y. q y && p y) xs) (q x) (filter_filter p q xs)

any_through_by : {X : Type 0} (p : X → Bool) (x : X) (xs ys : List X) (b c : Bool) → p x ≡ c → (c ≡ true → b ≡ true)
    → list_any p xs ≡ list_any p ys → (c || list_any p xs) ≡ list_any p (if b then x ∷ ys else ys)
any_through_by p x xs ys true c h so e = ap (λ d. d || list_any p xs) (sym h) ∙ ap (λ r. p x || r) e
any_through_by p x xs ys false true h so e = let no : false ≡ true = so refl in cc
any_through_by p x xs ys false false h so e = e

pub any_through : {X : Type 0} (p q : X → Bool) → ((x : X) → p x ≡ true → q x ≡ true) → (xs : List X) → list_any p xs ≡ list_any p (filter q xs)
any_through p q so [] = refl
any_through p q so (x ∷ xs) = any_through_by p x xs (filter q xs) (q x) (p x) refl (so x) (any_through p q so xs)

-- one passes
pub any_at : {X : Type 0} (p : X → Bool) (x : X) (xs : List X) → IsIn x xs → p x ≡ true → list_any p xs ≡ true
any_at p x [] is h = absurd is
any_at p x (y ∷ ys) (inl e) h = ap (λ b. b || list_any p ys) (ap p e ∙ h)
any_at p x (y ∷ ys) (inr is) h = or_right (p y) (list_any p ys) (any_at p x ys is h)

-- none passes
pub any_none : {X : Type 0} (p : X → Bool) (xs : List X) → ((x : X) → IsIn x xs → p x ≡ false) → list_any p xs ≡ false
any_none p [] each = refl
any_none p (x ∷ xs) each = ap (λ b. b || list_any p xs) (each x (inl refl)) ∙ any_none p xs (λ y is. each y (inr is))

pub each_append : {X : Type 0} (P : X → Type 0) (xs ys : List X) → ByRecursion P xs → ByRecursion P ys → ByRecursion P (xs ++ ys)
each_append P [] ys one other = other
each_append P (x ∷ xs) ys one other = (one.0, each_append P xs ys one.1 other)

pub pairs_append : {X : Type 0} (R : X → X → Type 0) (xs ys : List X) → Pairs R xs → Pairs R ys
    → ((x y : X) → IsIn x xs → IsIn y ys → R x y) → Pairs R (xs ++ ys)
pairs_append R [] ys one other each = other
pairs_append R (x ∷ xs) ys one other each = (
  each_append (R x) xs ys one.0 (each_in (R x) ys (λ y is. each x y (inl refl) is)),
  pairs_append R xs ys one.1 other (λ a b is. each a b (inr is)),
)

pub pairs_front : {X : Type 0} (R : X → X → Type 0) (xs ys : List X) → Pairs R (xs ++ ys) → (x y : X) → IsIn x xs → IsIn y ys → R x y
pairs_front R [] ys all x y is back = absurd is
pairs_front R (z ∷ xs) ys all x y (inl e) back = subst (λ w. R w y) e (at_in (R z) y (xs ++ ys) all.0 (in_back y xs ys back))
pairs_front R (z ∷ xs) ys all x y (inr is) back = pairs_front R xs ys all.1 x y is back

pub pairs_back : {X : Type 0} (R : X → X → Type 0) (xs ys : List X) → Pairs R (xs ++ ys) → Pairs R ys
pairs_back R [] ys all = all
pairs_back R (x ∷ xs) ys all = pairs_back R xs ys all.1

pairs_filter_by : {X : Type 0} (R : X → X → Type 0) (x : X) (ys : List X) (b : Bool) → (b ≡ true → ByRecursion (R x) ys) → Pairs R ys
    → Pairs R (if b then x ∷ ys else ys)
pairs_filter_by R x ys true first rest = (first refl, rest)
pairs_filter_by R x ys false first rest = rest

-- of those that pass, each two
pub pairs_filter : {X : Type 0} (R S : X → X → Type 0) (p : X → Bool) (xs : List X)
    → ((x y : X) → p x ≡ true → p y ≡ true → R x y → S x y) → Pairs R xs → Pairs S (filter p xs)
pairs_filter R S p [] so all = tt
pairs_filter R S p (x ∷ xs) so all =
    pairs_filter_by S x (filter p xs) (p x)
    (λ h.
    each_in (S x) (filter p xs)
    (λ y is. let parts : IsIn y xs × (p y ≡ true) = in_filter p y xs is in so x y h parts.1 (at_in (R x) y xs all.0 parts.0)))
    (pairs_filter R S p xs so all.1)

pub each_flat : {X Y : Type 0} (P : Y → Type 0) (f : X → List Y) (xs : List X) → ByRecursion (λ x. ByRecursion P (f x)) xs → ByRecursion P (flat_map f xs)
each_flat P f [] all = tt
each_flat P f (x ∷ xs) all = each_append P (f x) (flat_map f xs) all.0 (each_flat P f xs all.1)

map_if : {X Y : Type 0} (f : X → Y) (x : X) (xs : List X) (ys : List Y) (b : Bool) → map f xs ≡ ys
    → map f (if b then x ∷ xs else xs) ≡ (if b then f x ∷ ys else ys)
map_if f x xs ys true e = ap (λ zs. f x ∷ zs) e
map_if f x xs ys false e = e

-- a filter before a map, by what the map gives
pub map_filter : {X Y : Type 0} (f : X → Y) (p : Y → Bool) (xs : List X) → map f (filter (λ x. p (f x)) xs) ≡ filter p (map f xs)
map_filter f p [] = refl
map_filter f p (x ∷ xs) = map_if f x (filter (λ y. p (f y)) xs) (filter p (map f xs)) (p (f x)) (map_filter f p xs)
