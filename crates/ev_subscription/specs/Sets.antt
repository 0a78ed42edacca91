-- Sets of names.
use Rattle.std.specs.Prelude.{ℕ, not, List, filter}
use Rattle.std.specs.Str.{bytes_eq}
use Rattle.indexmap.specs.IndexSet.{IndexSet, contains}

-- those of the names that aren't in the set, in their order
abbrev pub names_outside : {S : Type 0} → IndexSet (List ℕ) S → List (List ℕ) → List (List ℕ)
names_outside set names = filter (λ name. not (contains bytes_eq set name)) names
