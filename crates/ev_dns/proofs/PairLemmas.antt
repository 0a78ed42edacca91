-- Tests of the elements of lists, and two facts of one result.
use Rattle.std.proofs.Common.{◌≡◌, Bool, false, ◌&&◌, ◌||◌, List, [], ◌∷◌, map, filter, Result, Ok, Err, OnOk, refl, ap₂}
use Rattle.std.specs.List.{list_any, list_all}

pub all_same : {A : Type 0} (p q : A → Bool) (xs : List A) → ((x : A) → p x ≡ q x) → list_all p xs ≡ list_all q xs
all_same p q [] h = refl
all_same p q (x ∷ xs) h = ap₂ (λ (a b : Bool). a && b) (h x) (all_same p q xs h)

pub any_same : {A : Type 0} (p q : A → Bool) (xs : List A) → ((x : A) → p x ≡ q x) → list_any p xs ≡ list_any q xs
any_same p q [] h = refl
any_same p q (x ∷ xs) h = ap₂ (λ (a b : Bool). a || b) (h x) (any_same p q xs h)

pub map_same : {A B : Type 0} (f g : A → B) (xs : List A) → ((x : A) → f x ≡ g x) → map f xs ≡ map g xs
map_same f g [] h = refl
map_same f g (x ∷ xs) h = ap₂ (λ y ys. y ∷ ys) (h x) (map_same f g xs h)

pub none_left : {A : Type 0} (p : A → Bool) (xs : List A) → ((x : A) → p x ≡ false) → filter p xs ≡ []
none_left p [] h = refl
none_left p (x ∷ xs) h = rw (h x) (none_left p xs h)

pub on_ok_both : {T E : Type 0} (P Q : Type 0) (r : Result T E) → OnOk r P → OnOk r Q → OnOk r (P × Q)
on_ok_both P Q (Ok v) p q = (p, q)
on_ok_both P Q (Err e) p q = tt
