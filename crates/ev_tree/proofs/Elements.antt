-- The elements of an array, as a list.
use Rattle.std.proofs.Common.{◌≡◌, List, [], ◌∷◌, map, Bool, refl, ap}
use Rattle.std.specs.List.{list_all}
use Rattle.std.proofs.lemmas.List.Folds.{list_all-map}
use Rattle.serde_json.specs.Data.{Data}
use Rattle.serde_json.specs.View.{view, items_of, items_view}
use Rattle.serde_json.specs.declared.value.Value.{Value}
use Rattle.ev_tree.specs.Scalars.{elements_of}

pub elements_of-items_of : (ds : List Data) → elements_of (items_of ds) ≡ ds
elements_of-items_of [] = refl
elements_of-items_of (d ∷ ds) = ap (λ xs. d ∷ xs) (elements_of-items_of ds)

pub elements_of-items_view : (vs : List Value) → elements_of (items_view vs) ≡ map view vs
elements_of-items_view vs = elements_of-items_of (map view vs)

-- a test of each element, and of what each represents
pub list_all-view : (p : Data → Bool) (vs : List Value) → list_all p (map view vs) ≡ list_all (λ v. p (view v)) vs
list_all-view p vs = list_all-map p view vs

pub ruleset the_elements = (elements_of-items_of, elements_of-items_view)

pub ruleset the_tests = (list_all-view, list_all-map)
