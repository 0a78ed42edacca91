-- The places of filter chains in a list, each under the chain's keys.
use Rattle.std.specs.Prelude.{◌≡◌, ◌<◌, ◌+◌, ◌-◌, ◌^◌, ℕ, min, fold, Bool, true, false, nat_eq, nat_le, if◌then◌else◌, List, [], ◌∷◌, ◌++◌, length, Option, Some, None, slice_get, unwrap_or}
use Rattle.std.specs.List.{list_any}
use Rattle.std.specs.Map.{lookup}
use Rattle.std.specs.Str.{bytes_eq}
use Rattle.ev_types.specs.FilterChains.{collide}
use Rattle.ev_types.specs.declared.filter_chains.FilterChainMatch.{FilterChainMatch}
use Rattle.ev_types.specs.declared.listeners.FilterChain.{FilterChain}
use Rattle.ev_listener_json.specs.declared.chain_keys.Criterion.{Criterion}
use Rattle.ev_listener_json.specs.declared.chain_keys.Criterion.TheVariants.{Port, Range, Name, Protocol, DirectSource, SourceRange, SourcePort}
use Rattle.ev_listener_json.specs.ChainKeys.{keys_by}

-- lists of places, each under a key
abbrev pub PlacesKept : Type 0
PlacesKept = List (List ℕ × List ℕ)

-- the places under a key; no entry is none
abbrev pub places_under : PlacesKept → List ℕ → List ℕ
places_under kept key = unwrap_or (lookup (bytes_eq key) kept) []

-- the place is under the key
abbrev pub stands_under : PlacesKept → List ℕ → ℕ → Bool
stands_under kept key place = list_any (nat_eq place) (places_under kept key)

-- the key is one of these
abbrev pub has_key : List (List ℕ) → List ℕ → Bool
has_key keys key = list_any (bytes_eq key) keys

-- the place comes after the others under this key, and the same as before is under each other key
abbrev pub Puts : List ℕ → ℕ → PlacesKept → PlacesKept → Type 0
Puts key place before after = (other : List ℕ)
    → places_under after other ≡ places_under before other ++ (if bytes_eq key other then place ∷ [] else [])

-- the place is under these keys, and what was under a key still is
pub record Enters (keys : List (List ℕ)) (place : ℕ) (before after : PlacesKept) : Type 0 where
  pub kept : (key : List ℕ) (n : ℕ) → stands_under before key n ≡ true → stands_under after key n ≡ true
  pub entered : (key : List ℕ) → has_key keys key ≡ true → stands_under after key place ≡ true

-- the same of all keys of a match
pub record EntersMatch (m : FilterChainMatch) (place : ℕ) (before after : PlacesKept) : Type 0 where
  pub kept : (key : List ℕ) (n : ℕ) → stands_under before key n ≡ true → stands_under after key n ≡ true
  pub entered : (c : Criterion) (key : List ℕ) → has_key (keys_by c m) key ≡ true → stands_under after key place ≡ true

-- the places of the first n chains are under all their keys
abbrev pub HasFirst : ℕ → List FilterChain → PlacesKept → Type 0
HasFirst count chains kept = (place : ℕ) (chain : FilterChain) → place < count → slice_get chains place ≡ Some chain
    → (c : Criterion) (key : List ℕ) → has_key (keys_by c chain.criteria) key ≡ true → stands_under kept key place ≡ true

-- the places of all these chains are
abbrev pub HasAll : List FilterChain → PlacesKept → Type 0
HasAll chains kept = (place : ℕ) (chain : FilterChain) → slice_get chains place ≡ Some chain
    → (c : Criterion) (key : List ℕ) → has_key (keys_by c chain.criteria) key ≡ true → stands_under kept key place ≡ true

-- the chain at a place, if there is one, collides with this one
abbrev pub collides_given : FilterChainMatch → Option FilterChain → Bool
collides_given one None = false
collides_given one (Some chain) = collide chain.criteria one

abbrev pub collides_there : List FilterChain → FilterChainMatch → ℕ → Bool
collides_there chains one place = collides_given one (slice_get chains place)

-- one of the chains under these keys collides with this one
abbrev pub any_under : PlacesKept → List FilterChain → FilterChainMatch → List (List ℕ) → Bool
any_under kept chains one keys = list_any (λ key. list_any (collides_there chains one) (places_under kept key)) keys

-- one of these chains collides with this one
abbrev pub any_collides : List FilterChain → FilterChainMatch → Bool
any_collides chains one = list_any (λ (chain : FilterChain). collide chain.criteria one) chains

-- how many places there are under these keys: of 2^64 - 1 or more this many
abbrev pub count_under : PlacesKept → List (List ℕ) → ℕ
count_under kept keys = fold (λ count key. min (count + length (places_under kept key)) (2 ^ 64 - 1)) 0 keys

-- of two lists of keys the one under which there are fewer places
abbrev pub fewer_keys : PlacesKept → List (List ℕ) → List (List ℕ) → List (List ℕ)
fewer_keys kept one other = if nat_le (count_under kept one) (count_under kept other) then one else other

-- of the lists of a match's keys by the seven criteria the one under which there are the fewest
abbrev pub fewest_keys : PlacesKept → FilterChainMatch → List (List ℕ)
fewest_keys kept m = fewer_keys kept
    (fewer_keys kept
    (fewer_keys kept (keys_by Port m) (keys_by Range m))
    (fewer_keys kept (keys_by Name m) (keys_by Protocol m)))
    (fewer_keys kept
    (fewer_keys kept (keys_by DirectSource m) (keys_by SourceRange m))
    (keys_by SourcePort m))
