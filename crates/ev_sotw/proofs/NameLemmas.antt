-- A name more among sorted ones.
use Rattle.std.proofs.Common.{◌≡◌, ◌∙◌, ℕ, ◌+◌, ◌<◌, Bool, true, false, ◌||◌, List, [], ◌∷◌, ◌++◌, length, map, take, get_or, refl, sym, ap}
use Rattle.std.specs.Str.{bytes_eq}
use Rattle.std.proofs.lemmas.List.{map-append, take_more}
use Rattle.std.proofs.lemmas.List.Folds.{list_any-append}
use Rattle.ev_model.specs.Verdicts.{is_among}
use Rattle.ev_model.specs.Watching.{sorted_names}
use Rattle.ev_sotw.specs.Names.{with_name}
use Rattle.ev_sotw.proofs.NameSetLemmas.{among_sorted, sorted-in_order, same-names}

turn : (a b : Bool) → (a || b) ≡ (b || (a || false))
turn true true = refl
turn true false = refl
turn false true = refl
turn false false = refl

-- the names with one more at their end, sorted
pub sorted_push : (name : List ℕ) (names : List (List ℕ)) → with_name name (sorted_names names) ≡ sorted_names (names ++ name ∷ [])
sorted_push name names =
    same-names (with_name name (sorted_names names)) (sorted_names (names ++ name ∷ [])) (sorted-in_order (name ∷ sorted_names names)) (sorted-in_order (names ++ name ∷ []))
    (λ n. among_sorted (name ∷ sorted_names names) n ∙ ap (λ b. bytes_eq name n || b) (among_sorted names n) ∙ turn (bytes_eq name n) (is_among n names)
    ∙ sym (among_sorted (names ++ name ∷ []) n ∙ list_any-append (λ m. bytes_eq m n) names (name ∷ [])))

-- what is made of the elements up to the next
pub mapped_more : {A B C : Type 0} (f : B → C) (g : A → B) (xs : List A) (i : ℕ) (x : A) → i < length xs → x ≡ get_or xs i x
    → map f (map g (take (i + 1) xs)) ≡ map f (map g (take i xs)) ++ f (g x) ∷ []
mapped_more f g xs i x within is =
    ap (λ ys. map f (map g ys)) (take_more xs i x within)
    ∙ ap (map f) (map-append g (take i xs) (get_or xs i x ∷ []))
    ∙ map-append f (map g (take i xs)) (g (get_or xs i x) ∷ [])
    ∙ ap (λ y. map f (map g (take i xs)) ++ f (g y) ∷ []) (sym is)
