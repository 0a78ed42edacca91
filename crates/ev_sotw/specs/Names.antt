-- Names in order.
use Rattle.std.specs.Prelude.{ℕ, ◌≡◌, List, [], ◌∷◌, ◌++◌, map}
use Rattle.std.specs.List.Sorted.{IsStrictlySortedBy}
use Rattle.std.specs.Ordering.{nat_cmp}
use Rattle.std.specs.Cmp.Lexicographic.{slice_cmp}
use Rattle.serde_json.specs.Data.{string}
use Rattle.serde_json.specs.View.{view}
use Rattle.serde_json.specs.declared.value.Value.{Value}
use Rattle.ev_model.specs.Watching.{sorted_names}
use Rattle.ev_model.specs.Requests.{other_than}

-- in the order of their bytes, each once
abbrev pub IsInOrder : List (List ℕ) → Type 0
IsInOrder names = IsStrictlySortedBy (slice_cmp nat_cmp) names

-- the names with this one among them
abbrev pub with_name : List ℕ → List (List ℕ) → List (List ℕ)
with_name name names = sorted_names (name ∷ names)

-- the names with these among them
abbrev pub with_names : List (List ℕ) → List (List ℕ) → List (List ℕ)
with_names new names = sorted_names (new ++ names)

-- the names without this one
abbrev pub without_name : List ℕ → List (List ℕ) → List (List ℕ)
without_name name names = other_than (name ∷ []) names

-- the name is put after the values as a JSON text, where it isn't one of these names
abbrev pub PutsOther : List (List ℕ) → List ℕ → List Value → List Value → Type 0
PutsOther names name before after = map view after ≡ map view before ++ map string (other_than names (name ∷ []))
