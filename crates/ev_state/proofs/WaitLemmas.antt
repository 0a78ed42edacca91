-- A search around a list of names, from a place on.
use Rattle.std.proofs.Common.{◌≡◌, ◌∙◌, ℕ, ◌-◌, Bool, true, false, not, ◌&&◌, List, [], ◌∷◌, ◌++◌, take, drop, length, refl, sym, ap, arith}
use Rattle.std.proofs.lemmas.Grind.{common_steps}
use Rattle.std.specs.List.{list_all}

all_append : (p : List ℕ → Bool) (xs ys : List (List ℕ)) → list_all p (xs ++ ys) ≡ (list_all p xs && list_all p ys)
all_append p [] ys = refl
all_append p (x ∷ xs) ys = by (p x) (all_append p xs ys)
  where
    by : (b : Bool) → list_all p (xs ++ ys) ≡ (list_all p xs && list_all p ys) → (b && list_all p (xs ++ ys)) ≡ ((b && list_all p xs) && list_all p ys)
    by true more = more
    by false more = refl

halves : (names : List (List ℕ)) (place : ℕ) → take place names ++ take (length names - place) (drop place names) ≡ names
halves names place = grind (arith, common_steps)

-- all of a list pass where those before a place and those from it on pass
both_halves : (p : List ℕ → Bool) (names : List (List ℕ)) (place : ℕ)
    → (list_all p (take place names) && list_all p (take (length names - place) (drop place names))) ≡ list_all p names
both_halves p names place = sym (all_append p (take place names) (take (length names - place) (drop place names))) ∙ ap (list_all p) (halves names place)

behind_by : (first second all : Bool) → (first && second) ≡ all → true ≡ not second → true ≡ not all
behind_by true true all e h = cc
behind_by true false all e h = ap not e
behind_by false second all e h = ap not e

before_by : (first second all found : Bool) → (first && second) ≡ all → false ≡ not second → found ≡ not first → found ≡ not all
before_by true true all found e h k = k ∙ ap not e
before_by false true all found e h k = k ∙ ap not e
before_by first false all found e h k = cc

-- one of those from the place on fails
pub fails-behind : (p : List ℕ → Bool) (names : List (List ℕ)) (place : ℕ) → true ≡ not (list_all p (take (length names - place) (drop place names))) → true ≡ not (list_all p names)
fails-behind p names place h = behind_by (list_all p (take place names)) (list_all p (take (length names - place) (drop place names))) (list_all p names) (both_halves p names place) h

-- all of those pass, and one of those before fails or none
pub fails-before : (p : List ℕ → Bool) (names : List (List ℕ)) (place : ℕ) (found : Bool) → false ≡ not (list_all p (take (length names - place) (drop place names)))
    → found ≡ not (list_all p (take place names)) → found ≡ not (list_all p names)
fails-before p names place found h k =
    before_by (list_all p (take place names)) (list_all p (take (length names - place) (drop place names))) (list_all p names) found (both_halves p names place) h k
