-- Places that are under what they wait for.
use Rattle.std.specs.Prelude.{◌≡◌, ℕ, Bool, nat_eq, List, [], ◌∷◌, ◌++◌, unwrap_or, if◌then◌else◌}
use Rattle.std.specs.List.{list_any}
use Rattle.std.specs.Map.{lookup}
use Rattle.ev_tls.specs.declared.awaited.Awaited.{Awaited}
use Rattle.ev_tls.specs.Awaited.{awaited_same}

-- lists of places, each under what they wait for
abbrev pub PlacesKept : Type 0
PlacesKept = List (Awaited × List ℕ)

-- the places under this; no entry is none
abbrev pub places_under : PlacesKept → Awaited → List ℕ
places_under kept awaited = unwrap_or (lookup (awaited_same awaited) kept) []

-- the place is one of these
abbrev pub has_place : List ℕ → ℕ → Bool
has_place places place = list_any (nat_eq place) places

-- the place is under this
abbrev pub stands_under : PlacesKept → Awaited → ℕ → Bool
stands_under kept awaited place = has_place (places_under kept awaited) place

-- the place comes after the others under this, and the same as before under all else
abbrev pub Enters : Awaited → ℕ → PlacesKept → PlacesKept → Type 0
Enters awaited place before after = (other : Awaited)
    → places_under after other ≡ places_under before other ++ (if awaited_same awaited other then place ∷ [] else [])

-- none is under this, and the same as before under all else
abbrev pub Leaves : Awaited → PlacesKept → PlacesKept → Type 0
Leaves awaited before after = (other : Awaited)
    → places_under after other ≡ (if awaited_same awaited other then [] else places_under before other)
