-- Filters of lists: changes that leave what passes a test, and what holds of all that passes.
use Rattle.std.proofs.Common.{◌≡◌, Bool, true, false, List, [], ◌∷◌, map, filter, refl, ◌∙◌}
use Rattle.std.specs.List.{AllByRecursion as ByRecursion, Contains}
use Rattle.std.proofs.lemmas.Bool.{both_ways, cond_both}
use Rattle.std.proofs.lemmas.List.Elements.{All-contains, All-from_recursion, recursion_from_All}
use Rattle.ev_model_laws.proofs.TidyLists.{all_of}

changed_one : {X : Type 0} (p : X → Bool) (f : X → X) (x : X) (xs : List X) (passes : Bool) → p x ≡ passes → p (f x) ≡ p x
    → (p x ≡ true → f x ≡ x) → filter p (map f xs) ≡ filter p xs → filter p (f x ∷ map f xs) ≡ filter p (x ∷ xs)
changed_one p f x xs true is same stays more = simp (same ∙ is, is) (λ i. stays is i ∷ more i)
changed_one p f x xs false is same stays more = simp (same ∙ is, is) more

changed_by : {X : Type 0} (p : X → Bool) (f : X → X) (xs : List X) → ((x : X) → p (f x) ≡ p x) → ByRecursion (λ x. p x ≡ true → f x ≡ x) xs
    → filter p (map f xs) ≡ filter p xs
changed_by p f [] same stays = refl
changed_by p f (x ∷ xs) same stays = changed_one p f x xs (p x) refl (same x) stays.0 (changed_by p f xs same stays.1)

-- a change of elements that leaves those that pass a test
pub filter_changed : {X : Type 0} (p : X → Bool) (f : X → X) (xs : List X) → ((x : X) → p (f x) ≡ p x)
    → ((x : X) → Contains xs x → p x ≡ true → f x ≡ x) → filter p (map f xs) ≡ filter p xs
filter_changed p f xs same stays =
    changed_by p f xs same (recursion_from_All (λ x. p x ≡ true → f x ≡ x) xs (all_of (λ x. p x ≡ true → f x ≡ x) xs stays))

filtered_by : {X : Type 0} (p : X → Bool) (P : X → Type 0) (xs : List X) → ByRecursion P (filter p xs) → ByRecursion (λ x. p x ≡ true → P x) xs
filtered_by p P [] all = tt
filtered_by p P (x ∷ xs) all =
    cond_both (p x) (x ∷ filter p xs) (filter p xs) (λ ys. ByRecursion P ys → (p x ≡ true → P x) × ByRecursion (λ y. p y ≡ true → P y) xs)
    (λ is each. (λ h. each.0, filtered_by p P xs each.1))
    (λ isnt each. (λ h. absurd (both_ways (p x) isnt h), filtered_by p P xs each))
    all

-- what holds of each element that a filter leaves holds of each that passes
pub each_passing : {X : Type 0} (p : X → Bool) (P : X → Type 0) (xs : List X) → ((x : X) → Contains (filter p xs) x → P x)
    → (x : X) → Contains xs x → p x ≡ true → P x
each_passing p P xs each x there =
    All-contains (λ y. p y ≡ true → P y) xs x
    (All-from_recursion (λ y. p y ≡ true → P y) xs (filtered_by p P xs (recursion_from_All P (filter p xs) (all_of P (filter p xs) each)))) there
