-- A loop that puts what some elements give after others.
use Rattle.std.proofs.Common.{◌≡◌, ℕ, zero, suc, ◌+◌, ◌<◌, List, [], ◌∷◌, ◌++◌, length, get_or, take, map, filter_map, Option, None, Some, option_to_list, refl, sym, ap, ◌∙◌, append_assoc, arith}
use Rattle.std.specs.List.{cons_option}
use Rattle.std.proofs.lemmas.List.{map-append, length-map, take_more}
use Rattle.std.proofs.lemmas.List.Elements.{filter_map-append}

one_given : {B : Type 0} (o : Option B) → cons_option o [] ≡ option_to_list o
one_given None = refl
one_given (Some x) = refl

-- one element more
pub given_more : {X D B : Type 0} (seen : X → D) (give : D → Option B) (xs : List X) (i : ℕ) (x : X) (start old new : List B) → i < length xs → x ≡ get_or xs i x
    → old ≡ start ++ filter_map give (map seen (take i xs)) → new ≡ old ++ option_to_list (give (seen x)) → new ≡ start ++ filter_map give (map seen (take (i + 1) xs))
given_more seen give xs i x start old new h there was is =
    is ∙ ap (λ ys. ys ++ option_to_list (give (seen x))) was ∙ append_assoc start (filter_map give (map seen (take i xs))) (option_to_list (give (seen x)))
    ∙ ap (λ ys. start ++ (filter_map give (map seen (take i xs)) ++ ys)) (sym (one_given (give (seen x))))
    ∙ ap (λ y. start ++ (filter_map give (map seen (take i xs)) ++ cons_option (give (seen y)) [])) there
    ∙ ap (λ ys. start ++ ys) (sym (filter_map-append give (map seen (take i xs)) (seen (get_or xs i x) ∷ [])))
    ∙ ap (λ ys. start ++ filter_map give ys) (sym (ap (map seen) (take_more xs i x h) ∙ map-append seen (take i xs) (get_or xs i x ∷ [])))

-- the same of elements that are seen as they are
pub given_next : {X B : Type 0} (give : X → Option B) (xs : List X) (i : ℕ) (x : X) (start old new : List B) → i < length xs → x ≡ get_or xs i x
    → old ≡ start ++ filter_map give (take i xs) → new ≡ old ++ option_to_list (give x) → new ≡ start ++ filter_map give (take (i + 1) xs)
given_next give xs i x start old new h there was is =
    is ∙ ap (λ ys. ys ++ option_to_list (give x)) was ∙ append_assoc start (filter_map give (take i xs)) (option_to_list (give x))
    ∙ ap (λ ys. start ++ (filter_map give (take i xs) ++ ys)) (sym (one_given (give x)))
    ∙ ap (λ y. start ++ (filter_map give (take i xs) ++ cons_option (give y) [])) there
    ∙ ap (λ ys. start ++ ys) (sym (filter_map-append give (take i xs) (get_or xs i x ∷ [])))
    ∙ ap (λ ys. start ++ filter_map give ys) (sym (take_more xs i x h))

at_map : {A B : Type 0} (f : A → B) (xs : List A) (i : ℕ) (d : A) (r : B) → i < length xs → get_or (map f xs) i r ≡ f (get_or xs i d)
at_map f [] i d r h = absurd (omega arith)
at_map f (x ∷ xs) zero d r h = refl
at_map f (x ∷ xs) (suc i) d r h = at_map f xs i d r (omega arith)

-- an element of a list of what others are read as
pub read_at : {A B C : Type 0} (read : B → C) (seen : A → B) (items : List C) (xs : List A) (i : ℕ) (item : C) (x : A) → items ≡ map read (map seen xs) → i < length xs
    → item ≡ get_or items i item → x ≡ get_or xs i x → item ≡ read (seen x)
read_at read seen items xs i item x e h here there =
    let below : i < length (map seen xs) = omega (arith, h, length-map xs seen) in
    here ∙ ap (λ ys. get_or ys i item) e ∙ at_map read (map seen xs) i (seen x) item below
    ∙ ap read (at_map seen xs i x (seen x) h) ∙ ap (λ y. read (seen y)) (sym there)
