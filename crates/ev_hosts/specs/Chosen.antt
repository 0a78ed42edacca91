-- The rows of an assignment that may be chosen.
use Rattle.std.specs.Prelude.{ℕ, ◌≡◌, min, Bool, if◌then◌else◌, List, [], ◌∷◌, drop, Option, Some, None}
use Rattle.ev_types.specs.Hosts.{HostRowParts}

-- the rows at the places that are marked
abbrev pub chosen_by : List Bool → List HostRowParts → List HostRowParts
chosen_by [] rows = []
chosen_by (mark ∷ marks) [] = []
chosen_by (mark ∷ marks) (row ∷ rows) = if mark then row ∷ chosen_by marks rows else chosen_by marks rows

-- the lower of a priority and another one, if there is one
abbrev pub lowest_with : ℕ → Option ℕ → ℕ
lowest_with priority None = priority
lowest_with priority (Some lowest) = min priority lowest

-- the lowest priority of rows, if there is a row
abbrev pub lowest_of : List HostRowParts → Option ℕ
lowest_of [] = None
lowest_of (row ∷ rows) = Some (lowest_with row.priority (lowest_of rows))

-- the rows chosen from one place on are those chosen from another one on, of whatever rows
abbrev pub SkipsUnmarked : List Bool → ℕ → ℕ → Type 0
SkipsUnmarked marks from to =
    (rows : List HostRowParts) → chosen_by (drop from marks) (drop from rows) ≡ chosen_by (drop to marks) (drop to rows)
