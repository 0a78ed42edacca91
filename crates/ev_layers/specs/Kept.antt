-- Whether changes leave everything as it was. It is enough to look under each name that they touch:
-- the name that a changed number had, the name of what serves now, and the name that its number had.
use Rattle.std.specs.Prelude.{ℕ, Bool, true, false, ◌&&◌, List, Option, Some, None}
use Rattle.ev_layers.specs.Rows.{named, numbered}

-- both searches find nothing, or the same
abbrev pub found_same : {X : Type 0} → (X → X → Bool) → Option X → Option X → Bool
found_same same None None = true
found_same same None (Some after) = false
found_same same (Some before) None = false
found_same same (Some before) (Some after) = same before after

-- the same has this name
abbrev pub keeps_name : {X : Type 0} → (X → List ℕ) → (X → X → Bool) → List X → List X → List ℕ → Bool
keeps_name name same before after n = found_same same (named name before n) (named name after n)

-- the same has the name of this element, if there is one
abbrev pub keeps_name_of : {X : Type 0} → (X → List ℕ) → (X → X → Bool) → List X → List X → Option X → Bool
keeps_name_of name same before after None = true
keeps_name_of name same before after (Some x) = keeps_name name same before after (name x)

-- the same has the name that this number had
abbrev pub keeps_number : {X : Type 0} → (X → ℕ) → (X → List ℕ) → (X → X → Bool) → List X → List X → ℕ → Bool
keeps_number number name same before after n = keeps_name_of name same before after (numbered number before n)

-- the same has the names that what serves now touches
abbrev pub keeps_served : {X : Type 0} → (X → ℕ) → (X → List ℕ) → (X → X → Bool) → List X → List X → Option X → Bool
keeps_served number name same before after None = true
keeps_served number name same before after (Some x) =
    keeps_number number name same before after (number x) && keeps_name name same before after (name x)

-- the same has the names that a change of this number touches
abbrev pub keeps : {X : Type 0} → (X → ℕ) → (X → List ℕ) → (X → X → Bool) → List X → List X → ℕ → Option X → Bool
keeps number name same before after n served =
    keeps_number number name same before after n && keeps_served number name same before after served
