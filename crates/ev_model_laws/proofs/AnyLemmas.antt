-- Whether some element of a list passes a test, or each does.
use Rattle.std.proofs.Common.{◌≡◌, ℕ, zero, suc, Bool, true, false, not, ◌&&◌, ◌||◌, List, [], ◌∷◌, ◌++◌, map, filter, refl, sym, ap, ◌∙◌, subst, inl, inr}
use Rattle.std.specs.Prelude.{slice_set}
use Rattle.std.specs.Cmp.{first_so, second_so}
use Rattle.std.specs.List.{list_any, list_all, flat_map, Contains}
use Rattle.std.proofs.lemmas.List.Elements.{Contains-append_left, Contains-append_right, Contains-push}
use Rattle.std.proofs.lemmas.Bool.{false≢true, cond_both, cond-true, cases_Bool, and_from, or_left, or_right, not_from_false}
use Rattle.std.proofs.lemmas.List.Folds.{list_any-append}
use Rattle.ev_model.specs.Sorted.{put_by, sorted_by}

-- what follows from each of two tests follows from both of them with an or
pub or_so : {P : Type 0} (x y : Bool) → (x ≡ true → P) → (y ≡ true → P) → (x || y) ≡ true → P
or_so true y first second h = first refl
or_so false y first second h = second h

-- what passes one test passes another
pub any_so : {X : Type 0} (p q : X → Bool) (xs : List X) → ((x : X) → p x ≡ true → q x ≡ true) → list_any p xs ≡ true → list_any q xs ≡ true
any_so p q [] so h = h
any_so p q (x ∷ xs) so h =
    or_so (p x) (list_any p xs) (λ first. or_left (q x) (list_any q xs) (so x first))
    (λ rest. or_right (q x) (list_any q xs) (any_so p q xs so rest)) h

-- where each element passes one test, and what passes it passes another, each passes the other
pub all_so : {X : Type 0} (p q : X → Bool) (xs : List X) → ((x : X) → p x ≡ true → q x ≡ true) → list_all p xs ≡ true → list_all q xs ≡ true
all_so p q [] so h = h
all_so p q (x ∷ xs) so h =
    and_from (q x) (list_all q xs) (so x (first_so (p x) (list_all p xs) h)) (all_so p q xs so (second_so (p x) (list_all p xs) h))

-- what passes one test passes another, or something else is so
pub any_unless : {X : Type 0} (p q : X → Bool) (other : Bool) (xs : List X) → ((x : X) → p x ≡ true → (q x || other) ≡ true)
    → list_any p xs ≡ true → (list_any q xs || other) ≡ true
any_unless p q other [] so h = absurd (false≢true h)
any_unless p q other (x ∷ xs) so h =
    or_so (p x) (list_any p xs)
    (λ first. or_so (q x) other
    (λ here. or_left (q x || list_any q xs) other (or_left (q x) (list_any q xs) here))
    (λ more. or_right (q x || list_any q xs) other more) (so x first))
    (λ rest. or_so (list_any q xs) other
    (λ there. or_left (q x || list_any q xs) other (or_right (q x) (list_any q xs) there))
    (λ more. or_right (q x || list_any q xs) other more) (any_unless p q other xs so rest))
    h

-- of two lists, one after the other
pub any_behind : {X P : Type 0} (p : X → Bool) (xs ys : List X) → (list_any p xs ≡ true → P) → (list_any p ys ≡ true → P)
    → list_any p (xs ++ ys) ≡ true → P
any_behind p xs ys first second h = or_so (list_any p xs) (list_any p ys) first second (sym (list_any-append p xs ys) ∙ h)

pub any_first : {X : Type 0} (p : X → Bool) (xs ys : List X) → list_any p xs ≡ true → list_any p (xs ++ ys) ≡ true
any_first p xs ys h = list_any-append p xs ys ∙ or_left (list_any p xs) (list_any p ys) h

pub any_second : {X : Type 0} (p : X → Bool) (xs ys : List X) → list_any p ys ≡ true → list_any p (xs ++ ys) ≡ true
any_second p xs ys h = list_any-append p xs ys ∙ or_right (list_any p xs) (list_any p ys) h

-- of one element
pub any_only : {X : Type 0} (p : X → Bool) (x : X) → list_any p (x ∷ []) ≡ true → p x ≡ true
any_only p x h = or_so (p x) false (λ passes. passes) (λ never. absurd (false≢true never)) h

-- of the elements that a filter leaves
pub any_left : {X : Type 0} (p keeps : X → Bool) (xs : List X) → list_any p (filter keeps xs) ≡ true → list_any p xs ≡ true
any_left p keeps [] h = h
any_left p keeps (x ∷ xs) h =
    cond_both (keeps x) (x ∷ filter keeps xs) (filter keeps xs) (λ ys. list_any p ys ≡ true → list_any p (x ∷ xs) ≡ true)
    (λ kept. or_so (p x) (list_any p (filter keeps xs)) (λ first. or_left (p x) (list_any p xs) first)
    (λ rest. or_right (p x) (list_any p xs) (any_left p keeps xs rest)))
    (λ gone rest. or_right (p x) (list_any p xs) (any_left p keeps xs rest))
    h

-- of what is made of each element
pub any_mapped : {X Y : Type 0} (p : Y → Bool) (f : X → Y) (xs : List X) → list_any p (map f xs) ≡ list_any (λ x. p (f x)) xs
any_mapped p f [] = refl
any_mapped p f (x ∷ xs) = ap (λ b. p (f x) || b) (any_mapped p f xs)

pub any_flat : {X Y : Type 0} (p : Y → Bool) (f : X → List Y) (xs : List X) → list_any p (flat_map f xs) ≡ list_any (λ x. list_any p (f x)) xs
any_flat p f [] = refl
any_flat p f (x ∷ xs) = list_any-append p (f x) (flat_map f xs) ∙ ap (λ b. list_any p (f x) || b) (any_flat p f xs)

-- of a list in which one element was set
pub any_set : {P : Type 0} (p : ℕ → Bool) (xs : List ℕ) (place value : ℕ) → (list_any p xs ≡ true → P) → (p value ≡ true → P)
    → list_any p (slice_set xs place value) ≡ true → P
any_set p [] place value first second h = first h
any_set p (x ∷ xs) zero value first second h =
    or_so (p value) (list_any p xs) second (λ rest. first (or_right (p x) (list_any p xs) rest)) h
any_set p (x ∷ xs) (suc place) value first second h =
    or_so (p x) (list_any p (slice_set xs place value)) (λ here. first (or_left (p x) (list_any p xs) here))
    (λ rest. any_set p xs place value (λ there. first (or_right (p x) (list_any p xs) there)) second rest) h

any_put : {X : Type 0} (p : X → Bool) (precedes : X → X → Bool) (x : X) (xs : List X)
    → list_any p (put_by precedes x xs) ≡ true → (p x || list_any p xs) ≡ true
any_put p precedes x [] h = h
any_put p precedes x (y ∷ ys) h =
    cond_both (precedes x y) (x ∷ y ∷ ys) (y ∷ put_by precedes x ys) (λ zs. list_any p zs ≡ true → (p x || (p y || list_any p ys)) ≡ true)
    (λ before here. here)
    (λ behind. or_so (p y) (list_any p (put_by precedes x ys)) (λ first. or_right (p x) (p y || list_any p ys) (or_left (p y) (list_any p ys) first))
    (λ rest. or_so (p x) (list_any p ys) (λ first. or_left (p x) (p y || list_any p ys) first)
    (λ others. or_right (p x) (p y || list_any p ys) (or_right (p y) (list_any p ys) others)) (any_put p precedes x ys rest)))
    h

-- of a list that was sorted
pub any_sorted : {X : Type 0} (p : X → Bool) (precedes : X → X → Bool) (xs : List X)
    → list_any p (sorted_by precedes xs) ≡ true → list_any p xs ≡ true
any_sorted p precedes [] h = h
any_sorted p precedes (x ∷ xs) h =
    or_so (p x) (list_any p (sorted_by precedes xs)) (λ first. or_left (p x) (list_any p xs) first)
    (λ rest. or_right (p x) (list_any p xs) (any_sorted p precedes xs rest)) (any_put p precedes x (sorted_by precedes xs) h)

any_put_back : {X : Type 0} (p : X → Bool) (precedes : X → X → Bool) (x : X) (xs : List X)
    → (p x || list_any p xs) ≡ true → list_any p (put_by precedes x xs) ≡ true
any_put_back p precedes x [] h = h
any_put_back p precedes x (y ∷ ys) h =
    cond_both (precedes x y) (x ∷ y ∷ ys) (y ∷ put_by precedes x ys) (λ zs. list_any p zs ≡ true)
    (λ before. h)
    (λ behind. or_so (p x) (p y || list_any p ys)
    (λ first. or_right (p y) (list_any p (put_by precedes x ys)) (any_put_back p precedes x ys (or_left (p x) (list_any p ys) first)))
    (or_so (p y) (list_any p ys) (λ second. or_left (p y) (list_any p (put_by precedes x ys)) second)
    (λ rest. or_right (p y) (list_any p (put_by precedes x ys)) (any_put_back p precedes x ys (or_right (p x) (list_any p ys) rest))))
    h)

pub any_in_order : {X : Type 0} (p : X → Bool) (precedes : X → X → Bool) (xs : List X)
    → list_any p xs ≡ true → list_any p (sorted_by precedes xs) ≡ true
any_in_order p precedes [] h = h
any_in_order p precedes (x ∷ xs) h =
    any_put_back p precedes x (sorted_by precedes xs)
    (or_so (p x) (list_any p xs) (λ first. or_left (p x) (list_any p (sorted_by precedes xs)) first)
    (λ rest. or_right (p x) (list_any p (sorted_by precedes xs)) (any_in_order p precedes xs rest)) h)

-- what passes a test and is kept is among what a filter leaves
pub any_passing : {X : Type 0} (p keeps : X → Bool) (xs : List X) → list_any (λ x. p x && keeps x) xs ≡ true → list_any p (filter keeps xs) ≡ true
any_passing p keeps [] h = h
any_passing p keeps (x ∷ xs) h =
    or_so (p x && keeps x) (list_any (λ x. p x && keeps x) xs)
    (λ first.
    subst (λ ys. list_any p ys ≡ true) (sym (cond-true (keeps x) (x ∷ filter keeps xs) (filter keeps xs) (second_so (p x) (keeps x) first)))
    (or_left (p x) (list_any p (filter keeps xs)) (first_so (p x) (keeps x) first)))
    (λ rest.
    cond_both (keeps x) (x ∷ filter keeps xs) (filter keeps xs) (λ ys. list_any p ys ≡ true)
    (λ kept. or_right (p x) (list_any p (filter keeps xs)) (any_passing p keeps xs rest))
    (λ gone. any_passing p keeps xs rest))
    h

-- what passes one test passes it with a second, or without it
pub any_either : {X P : Type 0} (p q : X → Bool) (xs : List X) → (list_any (λ x. p x && q x) xs ≡ true → P)
    → (list_any (λ x. p x && not (q x)) xs ≡ true → P) → list_any p xs ≡ true → P
any_either p q [] within without h = absurd (false≢true h)
any_either p q (x ∷ xs) within without h =
    or_so (p x) (list_any p xs)
    (λ first. elim (cases_Bool (q x)) [
      | inl passes ↦ within (or_left (p x && q x) (list_any (λ x. p x && q x) xs) (and_from (p x) (q x) first passes))
      | inr fails ↦ without (or_left (p x && not (q x)) (list_any (λ x. p x && not (q x)) xs) (and_from (p x) (not (q x)) first (not_from_false (q x) fails)))
    ])
    (any_either p q xs (λ there. within (or_right (p x && q x) (list_any (λ x. p x && q x) xs) there))
    (λ there. without (or_right (p x && not (q x)) (list_any (λ x. p x && not (q x)) xs) there)))
    h

-- what follows of each element that passes
pub any_tells : {X : Type 0} (p : X → Bool) (told : Bool) (xs : List X) → ((x : X) → p x ≡ true → told ≡ true) → list_any p xs ≡ true → told ≡ true
any_tells p told [] tells h = absurd (false≢true h)
any_tells p told (x ∷ xs) tells h = or_so (p x) (list_any p xs) (tells x) (any_tells p told xs tells) h

-- an element that passes
pub any_found : {X : Type 0} (p : X → Bool) (xs : List X) → list_any p xs ≡ true → (x : X) × Contains xs x × (p x ≡ true)
any_found p [] h = absurd (false≢true h)
any_found {X = X} p (x ∷ xs) h =
    or_so (p x) (list_any p xs) (λ first. (x, Contains-append_left (x ∷ []) xs x (Contains-push [] x), first))
    (λ rest. let found : (y : X) × Contains xs y × (p y ≡ true) = any_found p xs rest in
    (found.0, Contains-append_right (x ∷ []) xs found.0 found.1, found.2))
    h
