-- What is guarded so far, as a map by key, and the places of a line's keys in it.
use denote.Ref.{Bor}
use Rattle.std.specs.Prelude.{◌≡◌, ℕ, ◌<◌, List, ◌∷◌, ◌++◌, [], map, length, All, Option, None, Some, IfSome, Vec, option_map, if◌then◌else◌}
use Rattle.std.specs.List.{list_any}
use Rattle.std.specs.declared.alloc.Global.{Global}
use Rattle.serde_json.specs.Data.{Data}
use Rattle.ev_trees.specs.declared.kept_tree.KeptTree.{KeptTree}
use Rattle.ev_trees.specs.Kept.{kept_shown}
use Rattle.ev_expand.specs.declared.keys.Key.{Key}
use Rattle.ev_expand.specs.declared.numbers.Numbers.{Numbers}
use Rattle.ev_expand.specs.Guarding.{Guard, Guarded, guarded_same, guarded_by, clusters_in, place_at}

-- something guarded, by its key and what is kept of its first resource
abbrev pub guarded_as : Key → Data → Guarded
guarded_as key own = record { key = key; own = own }

-- what the entries of the map show
abbrev pub seen_in : List (Key × KeptTree) → List Guarded
seen_in entries = map (λ (e : Key × KeptTree). guarded_as e.0 (kept_shown e.1)) entries

-- what an entry of the map shows that is found in it
abbrev pub found_shown : Bor Key × Bor KeptTree → Guarded
found_shown found = guarded_as found.0.now (kept_shown found.1.now)

-- what is guarded, as the table has it
abbrev pub guarded_so_far : Numbers → List Guarded
guarded_so_far numbers = seen_in numbers.firsts.entries

-- these are the numbers of what is guarded in some lines
abbrev pub AreNumbersOf : Guard → List Data → Numbers → Type 0
AreNumbersOf guard lines numbers = guarded_so_far numbers ≡ guarded_by guard lines

-- one more after these, unless its key is there
abbrev pub added : List Guarded → Guarded → List Guarded
added guarded one = if list_any (guarded_same one) guarded then guarded else guarded ++ one ∷ []

-- the same, where there is one
abbrev pub taken_up : List Guarded → Option Guarded → List Guarded
taken_up guarded None = guarded
taken_up guarded (Some one) = added guarded one

-- something guarded of this key, where there is one
abbrev pub guarded_with : Option Key → Data → Option Guarded
guarded_with key own = option_map (λ k. guarded_as k own) key

-- after a resource of this key, where it is guarded, the table has it too
abbrev pub TakesUp : Guard → Option Key → Data → Numbers → Numbers → Type 0
TakesUp guard key entry old new =
    guarded_so_far new ≡ taken_up (guarded_so_far old) (guarded_with key (guard.own_of entry))

-- after a line the table has what is guarded in it too
abbrev pub TakesUpLine : Guard → Data → Numbers → Numbers → Type 0
TakesUpLine guard line old new =
    (before : List Data) → AreNumbersOf guard before old → AreNumbersOf guard (before ++ line ∷ []) new

-- the places of the keys of a line's resources of clusters among what is guarded
pub record ArePlaces (guard : Guard) (line : Data) (guarded : List Guarded) (places : List (Option ℕ)) : Type 0 where
  pub each : places ≡ map (place_at guard guarded) (clusters_in guard.profile line)
  pub within : All (λ place. IfSome place (λ p. p < length guarded)) places

-- these are the places of a line's keys in the table
abbrev pub HasPlaces : Guard → Data → Numbers → Vec (Option ℕ) Global → Type 0
HasPlaces guard line numbers places = ArePlaces guard line (guarded_so_far numbers) places.items
