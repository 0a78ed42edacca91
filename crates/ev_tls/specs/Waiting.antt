-- Which places are complete, and what each of the others waits for.
use Rattle.std.specs.Prelude.{◌≡◌, ℕ, ◌<◌, ◌≤◌, Bool, true, false, not, ◌&&◌, ◌||◌, nat_eq, List, length, take, Some, option_map, unwrap_or, slice_get, slice_index_or}
use Rattle.std.specs.List.{list_any, list_all}
use Rattle.indexmap.specs.IndexSet.{IndexSet, contains}
use Rattle.ev_types.specs.declared.clusters.Discovery.{Discovery}
use Rattle.ev_expand.specs.Guarding.{Guarded}
use Rattle.ev_tls.specs.declared.awaited.Awaited.{Awaited}
use Rattle.ev_tls.specs.declared.awaited.Awaited.TheVariants.{Endpoints}
use Rattle.ev_tls.specs.declared.complete.Complete.{Complete}
use Rattle.ev_tls.specs.declared.known.Told.{Told}
use Rattle.ev_tls.specs.declared.waiting.Waiting.{Waiting}
use Rattle.ev_tls.specs.Awaited.{awaited_same, awaited_by, services_of}
use Rattle.ev_tls.specs.Known.{are_told, has_told}
use Rattle.ev_tls.specs.Places.{PlacesKept, places_under, has_place, stands_under}

-- all that it waits for has come
abbrev pub completed : Told → Guarded → Bool
completed told g = list_all (has_told told) (awaited_by g.key)

-- what is guarded at a place is complete
abbrev pub complete_at : Told → List Guarded → ℕ → Bool
complete_at told guarded place = unwrap_or (option_map (completed told) (slice_get guarded place)) false

-- more come after these
pub record Grows (guarded all : List Guarded) : Type 0 where
  pub longer : length guarded ≤ length all
  pub first : (place : ℕ) → place < length guarded → slice_get all place ≡ slice_get guarded place

-- what is under something stays there
abbrev pub KeepsUnder : PlacesKept → PlacesKept → Type 0
KeepsUnder before after = (a : Awaited) (n : ℕ) → stands_under before a n ≡ true → stands_under after a n ≡ true

-- ---- what isn't complete

-- a place is under something that its key waits for and that hasn't come
abbrev pub is_waiting : Told → PlacesKept → ℕ → Guarded → Bool
is_waiting told under place g =
    list_any (λ (a : Awaited). not (has_told told a) && stands_under under a place) (awaited_by g.key)

-- as many of the secrets of each place as are counted, from the first on, have come
abbrev pub HavePassed : Told → List Guarded → List ℕ → Type 0
HavePassed told guarded passed = (place : ℕ) (g : Guarded) → slice_get guarded place ≡ Some g
    → are_told told (take (slice_index_or passed place 0) g.key.names) ≡ true

-- each of what is guarded has been taken up, and waits where it isn't complete
pub record IsWaiting (told : Told) (guarded : List Guarded) (waiting : Waiting) : Type 0 where
  pub counted : length waiting.passed.items ≡ length guarded
  pub passed : HavePassed told guarded waiting.passed.items
  pub waits : (place : ℕ) (g : Guarded) → slice_get guarded place ≡ Some g
      → completed told g ≡ false → is_waiting told waiting.under place g ≡ true

-- each place from one up to another is among these
abbrev pub HasBetween : ℕ → ℕ → List ℕ → Type 0
HasBetween from to places = (place : ℕ) → from ≤ place → place < to → has_place places place ≡ true

-- places that waited for one of these are among the woken ones, and those that wait for anything else stay there
pub record Wakes (told : List Awaited) (before after : PlacesKept) (woken : List ℕ) : Type 0 where
  pub taken : (a : Awaited) (place : ℕ) → list_any (awaited_same a) told ≡ true
      → stands_under before a place ≡ true → has_place woken place ≡ true
  pub left : (a : Awaited) → list_any (awaited_same a) told ≡ false → places_under after a ≡ places_under before a

-- these places went on: each of them that isn't complete waits, and the set has exactly the complete ones
pub record Advances {S : Type 0} (told : Told) (guarded : List Guarded) (places : List ℕ) (before after : Waiting)
    (finished : IndexSet ℕ S) : Type 0 where
  pub counted : length after.passed.items ≡ length before.passed.items
  pub passed : HavePassed told guarded after.passed.items
  pub kept : KeepsUnder before.under after.under
  pub waits : (place : ℕ) (g : Guarded) → slice_get guarded place ≡ Some g → has_place places place ≡ true
      → completed told g ≡ false → is_waiting told after.under place g ≡ true
  pub finishes : (place : ℕ) → contains nat_eq finished place ≡ (has_place places place && complete_at told guarded place)

-- the same of one place
pub record AdvancesOne {S : Type 0} (told : Told) (guarded : List Guarded) (place : ℕ) (before after : Waiting)
    (old new : IndexSet ℕ S) : Type 0 where
  pub counted : length after.passed.items ≡ length before.passed.items
  pub passed : HavePassed told guarded after.passed.items
  pub kept : KeepsUnder before.under after.under
  pub waits : (g : Guarded) → slice_get guarded place ≡ Some g
      → completed told g ≡ false → is_waiting told after.under place g ≡ true
  pub finishes : (n : ℕ) → contains nat_eq new n ≡ (contains nat_eq old n || (nat_eq n place && complete_at told guarded n))

-- only complete places are finished, and all that weren't complete before
pub record Finishes (was_complete is_complete is_finished : ℕ → Bool) : Type 0 where
  pub sound : (place : ℕ) → is_finished place ≡ true → is_complete place ≡ true
  pub whole : (place : ℕ) → is_complete place ≡ true → was_complete place ≡ false → is_finished place ≡ true

-- what waits goes on: after it all waits that isn't complete, and what was completed is finished
pub record GoesOn {S : Type 0} (old new : Told) (guarded all : List Guarded) (after : Waiting)
    (finished : IndexSet ℕ S) : Type 0 where
  pub waits : IsWaiting new all after
  pub finishes : Finishes (complete_at old guarded) (complete_at new all) (contains nat_eq finished)

-- ---- what is complete

-- a place is under the endpoints that its cluster asks for, where it does
abbrev pub is_served : PlacesKept → ℕ → Discovery → Bool
is_served served place discovery = list_all (λ (name : List ℕ). stands_under served (Endpoints name) place) (services_of discovery)

-- the set has exactly the complete places, and each of them is under its endpoints
pub record AreComplete (told : Told) (guarded : List Guarded) (complete : Complete) : Type 0 where
  pub places : (place : ℕ) → contains nat_eq complete.places place ≡ complete_at told guarded place
  pub served : (place : ℕ) (g : Guarded) → slice_get guarded place ≡ Some g
      → completed told g ≡ true → is_served complete.served place g.key.cluster.discovery ≡ true

-- these places were taken up among the complete ones
pub record EntersAll (guarded : List Guarded) (is_entered : ℕ → Bool) (before after : Complete) : Type 0 where
  pub places : (n : ℕ) → contains nat_eq after.places n ≡ (is_entered n || contains nat_eq before.places n)
  pub kept : KeepsUnder before.served after.served
  pub served : (place : ℕ) (g : Guarded) → slice_get guarded place ≡ Some g
      → is_entered place ≡ true → is_served after.served place g.key.cluster.discovery ≡ true

-- the same of one place
pub record EntersOne (guarded : List Guarded) (place : ℕ) (before after : Complete) : Type 0 where
  pub places : (n : ℕ) → contains nat_eq after.places n ≡ (nat_eq place n || contains nat_eq before.places n)
  pub kept : KeepsUnder before.served after.served
  pub served : (g : Guarded) → slice_get guarded place ≡ Some g → is_served after.served place g.key.cluster.discovery ≡ true
