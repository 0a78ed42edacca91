-- What the ledger's two maps hold.
use Rattle.std.specs.Prelude.{◌≡◌, ◌≢◌, ℕ, Bool, ◌||◌, ◌&&◌, ◌==◌, false, not, cond, if◌then◌else◌, List, map, Option, None, Some}
use Rattle.std.specs.BTreeMap.{is_at}
use Rattle.std.specs.BTreeSet.{BTreeSet, contains}
use Rattle.std.specs.Option.{option_map, unwrap_or}
use Rattle.std.specs.List.{sum_by}
use Rattle.std.specs.Map.{lookup, values_of}
use Rattle.std.specs.Ordering.{ordering_then, nat_cmp}
use Rattle.std.specs.declared.cmp.Ordering.{Ordering}
use Rattle.std.specs.Prelude.{nat_eq}
use Rattle.indexmap.specs.IndexMap.{IndexMap, get}
use Rattle.ev_types.specs.declared.origins.Origin.{Origin}
use Rattle.ev_model.specs.World.{OpenMember}
use Rattle.ev_model.specs.Dead.{is_forwarded_to}
use Rattle.ev_ledger.specs.declared.open_on.On.{On}
use Rattle.ev_ledger.specs.Members.{member_on}

-- keys compare by worker, and those of one worker by number
abbrev pub key_order : ℕ × ℕ → ℕ × ℕ → Ordering
key_order one other = ordering_then (nat_cmp one.0 other.0) (nat_cmp one.1 other.1)

-- the connection of an entry: its worker and number, and what it is open on
abbrev pub member_of : (ℕ × ℕ) × On → OpenMember
member_of entry = member_on entry.0.0 entry.0.1 entry.1

-- the connections of the entries
abbrev pub members_of : List ((ℕ × ℕ) × On) → List OpenMember
members_of entries = map member_of entries

-- how much a connection on this listener and cluster counts for the generation of this number
abbrev pub weight : ℕ → On → ℕ
weight number on = if (on.listener == number || is_forwarded_to number on.cluster) then 1 else 0

-- the count that a map has for a number; no entry is none
abbrev pub counted : {S : Type 0} → IndexMap ℕ ℕ S → ℕ → ℕ
counted counts number = unwrap_or (get nat_eq counts number) 0

-- keys of an index compare by generation, and those of one generation by worker and number
abbrev pub place_on_order : ℕ × (ℕ × ℕ) → ℕ × (ℕ × ℕ) → Ordering
place_on_order one other = ordering_then (nat_cmp one.0 other.0) (key_order one.1 other.1)

-- the second entries have this at a place, or nothing, and at each other place what the first have
abbrev pub SetsAt : ℕ × ℕ → Option On → List ((ℕ × ℕ) × On) → List ((ℕ × ℕ) × On) → Type 0
SetsAt place on before after =
    (other : ℕ × ℕ) → lookup (is_at (key_order other)) after ≡ cond (is_at (key_order place) other) on (lookup (is_at (key_order other)) before)

-- the second index has this key, or has it no more, and of all others those that the first has
abbrev pub SetsKey : ℕ × (ℕ × ℕ) → Bool → BTreeSet (ℕ × (ℕ × ℕ)) → BTreeSet (ℕ × (ℕ × ℕ)) → Type 0
SetsKey key has before after =
    (other : ℕ × (ℕ × ℕ)) → contains place_on_order after other ≡ cond (is_at (place_on_order key) other) has (contains place_on_order before other)

-- both indexes have the same keys
abbrev pub SameKeys : BTreeSet (ℕ × (ℕ × ℕ)) → BTreeSet (ℕ × (ℕ × ℕ)) → Type 0
SameKeys before after = (key : ℕ × (ℕ × ℕ)) → contains place_on_order after key ≡ contains place_on_order before key

-- the key is of this generation
abbrev pub stands_on : ℕ → ℕ × (ℕ × ℕ) → Bool
stands_on number key = key.0 == number

-- the worker and the number of a key
abbrev pub place_of : ℕ × (ℕ × ℕ) → ℕ × ℕ
place_of key = key.1

-- this number was given
abbrev pub is_number : ℕ → Option ℕ → Bool
is_number number None = false
is_number number (Some given) = given == number

-- the second index has the place under the number too, where one is given, and all that the first has
abbrev pub EntersUnder : Option ℕ → ℕ × ℕ → BTreeSet (ℕ × (ℕ × ℕ)) → BTreeSet (ℕ × (ℕ × ℕ)) → Type 0
EntersUnder given place before after = (number : ℕ) (other : ℕ × ℕ)
    → contains place_on_order after (number, other)
    ≡ (contains place_on_order before (number, other) || (is_at (key_order place) other && is_number number given))

-- the second index hasn't the place under the number, where one is given, and has all others that the first has
abbrev pub LeavesUnder : Option ℕ → ℕ × ℕ → BTreeSet (ℕ × (ℕ × ℕ)) → BTreeSet (ℕ × (ℕ × ℕ)) → Type 0
LeavesUnder given place before after = (number : ℕ) (other : ℕ × ℕ)
    → contains place_on_order after (number, other)
    ≡ (contains place_on_order before (number, other) && not (is_at (key_order place) other && is_number number given))

-- the listener of a connection
abbrev pub listener_of : On → Option ℕ
listener_of on = Some on.listener

-- the generation with which the chain of a connection began, if one is known
abbrev pub began_at : On → Option ℕ
began_at on = option_map (λ (o : Origin). o.listener) on.origin

-- what an entry has is under this number
abbrev pub is_under : (On → Option ℕ) → ℕ → Option On → Bool
is_under under number None = false
is_under under number (Some on) = is_number number (under on)

-- the index has exactly the entries, each under its number, if it has one
abbrev pub AreIndexed : (On → Option ℕ) → BTreeSet (ℕ × (ℕ × ℕ)) → List ((ℕ × ℕ) × On) → Type 0
AreIndexed under places entries = (number : ℕ) (place : ℕ × ℕ)
    → contains place_on_order places (number, place) ≡ is_under under number (lookup (is_at (key_order place)) entries)

-- no number has a count of 0: without a connection it has no entry
abbrev pub HasNoZero : {S : Type 0} → IndexMap ℕ ℕ S → Type 0
HasNoZero counts = (number : ℕ) → get nat_eq counts number ≢ Some 0

-- the counts are those of the entries
abbrev pub AreCounts : {S : Type 0} → IndexMap ℕ ℕ S → List ((ℕ × ℕ) × On) → Type 0
AreCounts counts entries = (number : ℕ) → counted counts number ≡ sum_by (weight number) (values_of entries)

-- what a ledger keeps: the counts and the indexes are those of its entries
pub record AreEntriesKept {S : Type 0} (counts : IndexMap ℕ ℕ S) (places begun : BTreeSet (ℕ × (ℕ × ℕ))) (entries : List ((ℕ × ℕ) × On)) : Type 0 where
  pub counted : AreCounts counts entries
  pub none_zero : HasNoZero counts
  pub indexed : AreIndexed listener_of places entries
  pub begun_indexed : AreIndexed began_at begun entries

-- the entry is of this worker
abbrev pub is_at_worker : ℕ → (ℕ × ℕ) × On → Bool
is_at_worker worker entry = entry.0.0 == worker
