-- Which places are given, and whether a stream is open.
use Rattle.std.specs.Prelude.{◌≡◌, ℕ, Bool, false, ◌&&◌, ◌||◌, nat_eq, List, Option, None, Some, option_map, option_and_then, slice_get, unwrap_or}
use Rattle.std.specs.BTreeSet.{BTreeSet, contains}
use Rattle.std.specs.List.{list_any}
use Rattle.std.specs.Ordering.{nat_cmp}
use Rattle.ev_types.specs.declared.events.Event.{Event}
use Rattle.ev_expand.specs.Fronts.{stream_said}
use Rattle.ev_expand.specs.Guarding.{Guarded}

-- an item is this place
abbrev pub is_place : Option ℕ → ℕ → Bool
is_place None place = false
is_place (Some item) place = nat_eq item place

-- the place is one of these
abbrev pub is_marked : List (Option ℕ) → ℕ → Bool
is_marked items place = list_any (λ (item : Option ℕ). is_place item place) items

-- the place is one of these
abbrev pub is_listed : List ℕ → ℕ → Bool
is_listed places place = list_any (λ (one : ℕ). nat_eq one place) places

-- a set has gained the places that pass a test
abbrev pub Gains : BTreeSet ℕ → BTreeSet ℕ → (ℕ → Bool) → Type 0
Gains old new test = (place : ℕ) → contains nat_cmp new place ≡ (contains nat_cmp old place || test place)

-- both sets have the place
abbrev pub has_both : BTreeSet ℕ → BTreeSet ℕ → ℕ → Bool
has_both first second place = contains nat_cmp first place && contains nat_cmp second place

-- what is at a place passes the test
abbrev pub passes_at : (Guarded → Bool) → List Guarded → ℕ → Bool
passes_at test guarded place = unwrap_or (option_map test (slice_get guarded place)) false

-- whether a stream is open after an event
abbrev pub open_after : Bool → Option Event → Bool
open_after connected event = unwrap_or (option_and_then stream_said event) connected
