-- Which places are given.
use Rattle.std.specs.Prelude.{◌≡◌, ℕ, Bool, false, ◌||◌, nat_eq, List, Option, None, Some}
use Rattle.std.specs.List.{list_any}
use Rattle.indexmap.specs.IndexSet.{IndexSet, contains}

-- an item is this place
abbrev pub is_place : Option ℕ → ℕ → Bool
is_place None place = false
is_place (Some item) place = nat_eq item place

-- the place is one of these
abbrev pub is_marked : List (Option ℕ) → ℕ → Bool
is_marked items place = list_any (λ (item : Option ℕ). is_place item place) items

-- the set has the places that pass the test too
abbrev pub GainsPlaces : {S : Type 0} → (ℕ → Bool) → IndexSet ℕ S → IndexSet ℕ S → Type 0
GainsPlaces more before after = (place : ℕ) → contains nat_eq after place ≡ (more place || contains nat_eq before place)
