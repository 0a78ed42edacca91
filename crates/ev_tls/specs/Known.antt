-- What is known of secrets and of endpoints, found by look-ups.
use Rattle.std.specs.Prelude.{◌≡◌, ℕ, Bool, not, ◌||◌, if◌then◌else◌, List, Option, Some, map, filter, option_map}
use Rattle.std.specs.List.{list_any, list_all, find, last_or, prefix_len}
use Rattle.std.specs.Str.{bytes_eq}
use Rattle.indexmap.specs.IndexSet.{IndexSet, contains}
use Rattle.indexmap.specs.IndexMap.{get}
use Rattle.serde_json.specs.Data.{Data}
use Rattle.ev_trees.specs.Kept.{kept_shown}
use Rattle.ev_expand.specs.declared.keys.Key.{Key}
use Rattle.ev_tls.specs.declared.awaited.Awaited.{Awaited}
use Rattle.ev_tls.specs.declared.awaited.Awaited.TheVariants.{Secret, Endpoints}
use Rattle.ev_tls.specs.declared.known.Told.{Told}
use Rattle.ev_tls.specs.declared.known.Values.{Values}
use Rattle.ev_tls.specs.Awaited.{awaited_same, awaited_by}

-- it has come
abbrev pub has_told : Told → Awaited → Bool
has_told told (Secret name) = contains bytes_eq told.secrets name
has_told told (Endpoints name) = contains bytes_eq told.endpoints name

-- one more has come
abbrev pub Adds : Told → Told → Awaited → Type 0
Adds old new one = (other : Awaited) → has_told new other ≡ (awaited_same other one || has_told old other)

-- all of these have come too
abbrev pub AddsAll : Told → Told → List Awaited → Type 0
AddsAll old new all = (other : Awaited) → has_told new other ≡ (has_told old other || list_any (awaited_same other) all)

-- all of these secrets have come
abbrev pub are_told : Told → List (List ℕ) → Bool
are_told told secrets = list_all (contains bytes_eq told.secrets) secrets

-- how many of these secrets, from the first on, have come
abbrev pub first_told : Told → List (List ℕ) → ℕ
first_told told secrets = prefix_len (contains bytes_eq told.secrets) secrets

-- the first of these that hasn't come
abbrev pub first_untold : Told → List Awaited → Option Awaited
first_untold told all = find (λ (a : Awaited). not (has_told told a)) all

-- the first of what the clusters of a key wait for that hasn't come
abbrev pub next_of : Told → Key → Option Awaited
next_of told key = first_untold told (awaited_by key)

-- the value of a name
abbrev pub shown_value : Values → List ℕ → Option Data
shown_value values name = option_map kept_shown (get bytes_eq values.by_name name)

-- the name has this value, and each other name the one before
abbrev pub PutsValue : List ℕ → Data → Values → Values → Type 0
PutsValue name value before after =
    (other : List ℕ) → shown_value after other ≡ (if bytes_eq name other then Some value else shown_value before other)

-- the last value of a name among these, or the one before them
abbrev pub later_value : List ℕ → Option Data → List (List ℕ × Data) → Option Data
later_value name before values = last_or before (map (λ (v : List ℕ × Data). v.1) (filter (λ (v : List ℕ × Data). bytes_eq v.0 name) values))

-- one of these is of the name
abbrev pub gives_to : List ℕ → List (List ℕ × Data) → Bool
gives_to name values = list_any (λ (v : List ℕ × Data). bytes_eq v.0 name) values

-- each name has its last value among these, or the one before them
abbrev pub TakesValues : List (List ℕ × Data) → Values → Values → Type 0
TakesValues values before after =
    (name : List ℕ) → shown_value after name ≡ later_value name (shown_value before name) values

-- the set has exactly the names that these values are of
abbrev pub AreNamesOf : {S : Type 0} → List (List ℕ × Data) → IndexSet (List ℕ) S → Type 0
AreNamesOf values names = (name : List ℕ) → contains bytes_eq names name ≡ gives_to name values
