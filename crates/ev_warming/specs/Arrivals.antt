-- Responses of what generations depend on.
use Rattle.std.specs.Prelude.{◌≡◌, ℕ, Bool, true, ⊤, if◌then◌else◌, List, [], ◌∷◌, ◌++◌}
use Rattle.std.specs.List.{list_any}
use Rattle.ev_types.specs.Items.{ItemParts}
use Rattle.ev_types.specs.declared.contents.Kind.{Kind}
use Rattle.ev_types.specs.declared.events.Verdict.{Verdict}
use Rattle.ev_types.specs.declared.events.Verdict.TheVariants.{New, InPlace, Back, Same, Kept, Unasked, Renewed, Refused}
use Rattle.ev_types.specs.declared.rows.Arrival.{Arrival}
use Rattle.ev_types.specs.declared.rows.GenRow.{GenRow}
use Rattle.ev_model.specs.World.{World}
use Rattle.ev_model.specs.Watching.{Dependency}
use Rattle.ev_model.specs.Rows.{arrived}
use Rattle.ev_lookups.specs.Keys.{named}
use Rattle.ev_lookups.specs.declared.kind_keys.Key.{Key}
use Rattle.ev_indexes.specs.Indexes.{depends_on}
use Rattle.ev_indexes.specs.Kept.{Sets}
use Rattle.ev_indexes.specs.Watched.{WatchesKept, unwatched, watch_in, watched_for, unwatched_for, with_arrival}

-- a verdict on what is asked for by name makes no generation and drops none, and only a resource of a watched name is
-- kept
abbrev pub IsOnValue : Verdict → Bool → Type 0
IsOnValue New watched = ⊥
IsOnValue InPlace watched = ⊥
IsOnValue Back watched = ⊥
IsOnValue Same watched = ⊤
IsOnValue Kept watched = watched ≡ true
IsOnValue Unasked watched = ⊤
IsOnValue Renewed watched = ⊤
IsOnValue (Refused rule) watched = ⊤

-- each of these verdicts is one on what is asked for by names of this kind, on which live rows of these depend
abbrev pub AreOnValues : Kind → List GenRow → List Verdict → List ItemParts → Type 0
AreOnValues kind rows [] items = ⊤
AreOnValues kind rows (verdict ∷ verdicts) [] = ⊤
AreOnValues kind rows (verdict ∷ verdicts) (item ∷ items) =
    IsOnValue verdict (list_any (depends_on (named kind item.name)) rows) × AreOnValues kind rows verdicts items

-- a verdict on a cluster or listener keeps no value
abbrev pub IsOnRow : Verdict → Type 0
IsOnRow New = ⊤
IsOnRow InPlace = ⊤
IsOnRow Back = ⊤
IsOnRow Same = ⊤
IsOnRow Kept = ⊥
IsOnRow Unasked = ⊤
IsOnRow Renewed = ⊤
IsOnRow (Refused rule) = ⊤

-- each of these verdicts is so
abbrev pub AreOnRows : List Verdict → Type 0
AreOnRows [] = ⊤
AreOnRows (verdict ∷ verdicts) = IsOnRow verdict × AreOnRows verdicts

-- the world once something was received for a name
abbrev pub with_arrived : Kind → Arrival → List ℕ → World → World
with_arrived kind arrival name world = record world { arrivals = world.arrivals ++ arrived world.made kind arrival name ∷ [] }

-- the same where the name is watched
abbrev pub told_where : Bool → Kind → Arrival → List ℕ → World → World
told_where watched kind arrival name world = if watched then with_arrived kind arrival name world else world

-- what was received for the name when so many numbers were allocated is known, and of every other name what was known
abbrev pub Hears : WatchesKept → WatchesKept → Key → ℕ → Arrival → Type 0
Hears old new key made arrival = Sets unwatched old new key (with_arrival made arrival (watch_in old key))

-- the generation of this number depends on these, and nothing else of what is known changes
abbrev pub WatchesNeeds : WatchesKept → WatchesKept → ℕ → List Dependency → Type 0
WatchesNeeds old new number ds = (key : Key) → watch_in new key ≡ watched_for number key ds (watch_in old key)

-- the generation of this number depends on none of these any more, and nothing else of what is known changes
abbrev pub UnwatchesNeeds : WatchesKept → WatchesKept → ℕ → List Dependency → Type 0
UnwatchesNeeds old new number ds = (key : Key) → watch_in new key ≡ unwatched_for number key ds (watch_in old key)
