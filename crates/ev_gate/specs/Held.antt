-- What a ghost field of a turn says, in forms that have one proof at most.
use Rattle.std.specs.Prelude.{◌≡◌, ℕ, ◌==◌, Bool, false, List, [], ◌∷◌, Option, Some, None}
use base.Stored.{Coded-set}
use Rattle.atomic_table.specs.Seated.{TableId, table_id_coded}

-- two names of a table are equal in one way at most
pub TableId-set : (a b : TableId) → IsProp (a ≡ b)
TableId-set = Coded-set table_id_coded

-- the seat holds the slot 0 alone, and nothing is in it
abbrev pub holds_empty : {V : Type 0} → List (ℕ × Option V) → Bool
holds_empty [] = false
holds_empty (x ∷ y ∷ ys) = false
holds_empty ((k, Some v) ∷ []) = false
holds_empty ((k, None) ∷ []) = k == 0
