-- The sets by which the names that a response mentions are found.
use Rattle.std.specs.Prelude.{◌≡◌, ℕ, Bool, ◌&&◌, ◌||◌, nat_le, List, length}
use Rattle.std.specs.Str.{bytes_eq}
use Rattle.indexmap.specs.IndexSet.{IndexSet, contains}
use Rattle.ev_types.specs.Items.{ItemParts, ResponseParts}
use Rattle.ev_model.specs.Verdicts.{items_named, is_among}

-- the set has the names that this many resources here have, or more
abbrev pub HasNamed : ℕ → List ItemParts → (List ℕ → Bool) → Type 0
HasNamed count items has = (name : List ℕ) → has name ≡ nat_le count (length (items_named name items))

-- the name is put into the set, which keeps its others
abbrev pub Puts : {S : Type 0} → IndexSet (List ℕ) S → IndexSet (List ℕ) S → List ℕ → Type 0
Puts old new name = (other : List ℕ) → contains bytes_eq new other ≡ (bytes_eq name other || contains bytes_eq old other)

-- the name is put into the second set, which keeps its others, where it is in the first
abbrev pub PutsAgain : {S : Type 0} → IndexSet (List ℕ) S → IndexSet (List ℕ) S → IndexSet (List ℕ) S → List ℕ → Type 0
PutsAgain first old new name =
    (other : List ℕ) → contains bytes_eq new other ≡ (bytes_eq name other && contains bytes_eq first name || contains bytes_eq old other)

-- each set has what a search of the response finds
pub record AreFound (response : ResponseParts) (in_named in_twice in_removed : List ℕ → Bool) : Type 0 where
  pub named : HasNamed 1 response.items in_named
  pub twice : HasNamed 2 response.items in_twice
  pub removed : (name : List ℕ) → in_removed name ≡ is_among name response.removed
