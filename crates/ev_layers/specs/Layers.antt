-- A table in layers: a base, layers over it that many snapshots share, and over all what changes now.
use Rattle.std.specs.Prelude.{◌≡◌, ℕ, ◌*◌, Bool, cond, nat_lt, List, [], ◌∷◌, ◌++◌, Option, Some, None}
use Rattle.std.specs.Arc.{arc_value}
use Rattle.std.specs.Option.{option_or}
use Rattle.indexmap.specs.IndexMap.{IndexMap, get, get_by, keys}
use Rattle.ev_layers.specs.declared.table.Table.{Table}

-- what lies over a base, or else what the base has
abbrev pub over_base : {V : Type 0} → Option (Option V) → Option V → Option V
over_base None below = below
over_base (Some entry) below = entry

-- what the first of these layers that has the key has under it, the newest first
abbrev pub entry_in : {K V S : Type 0} → (K → Bool) → List (IndexMap K V S) → Option V
entry_in test [] = None
entry_in test (layer ∷ layers) = option_or (get_by test layer) (entry_in test layers)

-- what the first of these layers that has this key has under it
abbrev pub entry_at : {K V S : Type 0} → (K → K → Bool) → List (IndexMap K V S) → K → Option V
entry_at eq layers key = entry_in (eq key) layers

-- the same entry is found in these layers as in others, under each key
abbrev pub HaveSame : {K V S : Type 0} → (K → K → Bool) → List (IndexMap K V S) → List (IndexMap K V S) → Type 0
HaveSame {K} eq layers others = (key : K) → entry_at eq others key ≡ entry_at eq layers key

-- what lies over the table's base under the key that passes the test
abbrev pub entry_by : {K V : Type 0} → (K → Bool) → Table K V → Option (Option V)
entry_by test table = entry_in test (table.over ∷ table.layers)

-- what the table has under the key that passes the test
abbrev pub found_by : {K V : Type 0} → (K → Bool) → Table K V → Option V
found_by test table = over_base (entry_by test table) (get_by test (arc_value table.base))

-- what the table has under a key
abbrev pub found : {K V : Type 0} → (K → K → Bool) → Table K V → K → Option V
found eq table key = found_by (eq key) table

-- the second look-up finds this under the key, or nothing, and under each other key what the first finds
abbrev pub SetsAt : {K V : Type 0} → (K → K → Bool) → K → Option V → (K → Option V) → (K → Option V) → Type 0
SetsAt {K} eq key value before after = (other : K) → after other ≡ cond (eq key other) value (before other)

-- the same of the look-ups in two tables
abbrev pub SetsEntry : {K V : Type 0} → (K → K → Bool) → K → Option V → Table K V → Table K V → Type 0
SetsEntry eq key value before after = SetsAt eq key value (found eq before) (found eq after)

-- the last look-up finds what lies over a base, or else what the base has
abbrev pub LooksOver : {K V : Type 0} → (K → Option (Option V)) → (K → Option V) → (K → Option V) → Type 0
LooksOver {K} over base after = (key : K) → after key ≡ over_base (over key) (base key)

-- the second table has what the look-up finds, or else what the first table's base has
abbrev pub HasOverBase : {K V : Type 0} → (K → K → Bool) → (K → Option (Option V)) → Table K V → Table K V → Type 0
HasOverBase eq over before after = LooksOver over (get eq (arc_value before.base)) (found eq after)

-- the last look-up finds what the second finds, or else what the first, which is older, finds
abbrev pub LooksBelow : {K V : Type 0} → (K → Option V) → (K → Option V) → (K → Option V) → Type 0
LooksBelow {K} older before after = (key : K) → after key ≡ option_or (before key) (older key)

-- the second look-up finds what the first finds, or else this under the key
abbrev pub SetsNew : {K V : Type 0} → (K → K → Bool) → K → V → (K → Option V) → (K → Option V) → Type 0
SetsNew {K} eq key value before after = (other : K) → after other ≡ option_or (before other) (cond (eq key other) (Some value) None)

-- the keys of these layers
abbrev pub keys_of_layers : {K V S : Type 0} → List (IndexMap K V S) → List K
keys_of_layers [] = []
keys_of_layers (layer ∷ layers) = keys layer ++ keys_of_layers layers

-- the keys of all layers and of the base
abbrev pub keys_in : {K V : Type 0} → Table K V → List K
keys_in table = keys_of_layers (table.over ∷ table.layers) ++ keys (arc_value table.base)

-- what is so long isn't four times as long as what goes over it
abbrev pub is_short : ℕ → ℕ → Bool
is_short length over = nat_lt length (4 * over)
