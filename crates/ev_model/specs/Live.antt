-- Which generations are live. This project's own words for Envoy's cluster
-- and listener managers: a generation that warms lives beside the one that serves, until it takes its place.
use Rattle.std.specs.Prelude.{ℕ, Bool, ◌&&◌, nat_lt, if◌then◌else◌, List, [], ◌∷◌, filter, map, Option, Some, None}
use Rattle.std.specs.Str.{bytes_eq}
use Rattle.ev_types.specs.declared.contents.Kind.{Kind}
use Rattle.ev_types.specs.Kinds.{kind_same}
use Rattle.ev_types.specs.Statuses.{is_live, is_warming}
use Rattle.ev_types.specs.declared.rows.GenRow.{GenRow}
use Rattle.ev_types.specs.declared.rows.Live.{Live}
use Rattle.ev_model.specs.World.{World}

-- what is seen of a live row
abbrev pub live_of : GenRow → Live
live_of row = record { kind = row.kind; number = row.number; name = row.name; content = row.content; warming = is_warming row.status }

-- the live rows, in order
abbrev pub lives_of : World → List Live
lives_of world = map live_of (filter (λ (row : GenRow). is_live row.status) world.rows)

-- it is of this kind and name
abbrev pub is_named : Kind → List ℕ → Live → Bool
is_named kind name live = kind_same live.kind kind && bytes_eq live.name name

-- the one of the greater number, where there are two
abbrev pub later_of : Live → Option Live → Option Live
later_of live None = Some live
later_of live (Some other) = if nat_lt live.number other.number then Some other else Some live

-- the one of the greatest number
abbrev pub latest : List Live → Option Live
latest [] = None
latest (live ∷ lives) = later_of live (latest lives)

-- the newest generation of a name
abbrev pub newest_of : List Live → Kind → List ℕ → Option Live
newest_of lives kind name = latest (filter (is_named kind name) lives)
