-- Which templates are complete, and what each of the others waits for.
use Rattle.std.specs.Prelude.{◌≡◌, ◌≤◌, ◌<◌, ℕ, Bool, true, false, not, ◌&&◌, ◌||◌, List, [], ◌∷◌, length, take, Option, None, Some, slice_get, slice_index}
use Rattle.std.specs.BTreeSet.{contains}
use Rattle.std.specs.List.{list_any, list_all}
use Rattle.std.specs.Ordering.{nat_cmp}
use Rattle.std.specs.Str.{bytes_eq}
use Rattle.ev_types.specs.Hosts.{HostRowParts}
use Rattle.ev_expand.specs.declared.keys.Key.{Key}
use Rattle.ev_expand.specs.Guarding.{Guarded}
use Rattle.ev_dns.specs.declared.answers.Answers.{Answers}
use Rattle.ev_dns.specs.declared.complete.Complete.{Complete}
use Rattle.ev_dns.specs.declared.places.Places.{Places}
use Rattle.ev_dns.specs.declared.waiting.Waiting.{Waiting}
use Rattle.ev_dns.specs.Known.{has_row, has_all, places_under, stands_under, KeepsUnder}
use Rattle.ev_dns.specs.Marking.{Gains, is_listed, passes_at}
use Rattle.ev_dns.specs.Templates.{template_rows, has_name}

-- there is a name, and it is this one
abbrev pub is_named : Option (List ℕ) → List ℕ → Bool
is_named None other = false
is_named (Some name) other = bytes_eq name other

-- what is at a place is complete
abbrev pub complete_at : Answers → List Guarded → ℕ → Bool
complete_at answers guarded place = passes_at (λ g. has_all answers g.key) guarded place

-- ---- what isn't complete

-- a place is under the name of a host that wasn't answered
abbrev pub is_waiting : Answers → Places → ℕ → Key → Bool
is_waiting answers under place key = list_any
    (λ (row : HostRowParts). not (has_row answers row) && stands_under under row.host.address place)
    (template_rows key)

-- as many hosts of each place as are counted, from the first on, were answered
abbrev pub HavePassed : Answers → List Guarded → List ℕ → Type 0
HavePassed answers guarded passed = (place : ℕ) (g : Guarded) → slice_get guarded place ≡ Some g
    → list_all (has_row answers) (take (slice_index passed place) (template_rows g.key)) ≡ true

-- the same is counted for each place
abbrev pub CountsAs : List ℕ → List ℕ → Type 0
CountsAs old new = (place : ℕ) → slice_index new place ≡ slice_index old place

-- each place from one of them on, up to a count, is among these
abbrev pub HasFrom : ℕ → ℕ → List ℕ → Type 0
HasFrom first count places = (place : ℕ) → first ≤ place → place < count → is_listed places place ≡ true

-- each of what is guarded has been taken up, and waits where it isn't complete
pub record AreWaiting (answers : Answers) (guarded : List Guarded) (waiting : Waiting) : Type 0 where
  pub counted : length waiting.passed.items ≡ length guarded
  pub passed : HavePassed answers guarded waiting.passed.items
  pub waits : (place : ℕ) (g : Guarded) → slice_get guarded place ≡ Some g → has_all answers g.key ≡ false
      → is_waiting answers waiting.under place g.key ≡ true

-- places that wait for this name are among the woken ones, and those that wait for another stay there
pub record Wakes (name : Option (List ℕ)) (before after : Places) (woken : List ℕ) : Type 0 where
  pub taken : (other : List ℕ) (place : ℕ) → is_named name other ≡ true → stands_under before other place ≡ true
      → is_listed woken place ≡ true
  pub left : (other : List ℕ) → is_named name other ≡ false → places_under after other ≡ places_under before other

-- These places went on: each of them that isn't complete waits, and the complete ones are finished. The others stay
-- where they are.
pub record Advances (answers : Answers) (guarded : List Guarded) (places : List ℕ) (before after : Places)
    (done : List ℕ) : Type 0 where
  pub kept : KeepsUnder before after
  pub waits : (place : ℕ) (g : Guarded) → slice_get guarded place ≡ Some g → is_listed places place ≡ true
      → has_all answers g.key ≡ false → is_waiting answers after place g.key ≡ true
  pub finished : (place : ℕ) → is_listed done place ≡ (is_listed places place && complete_at answers guarded place)

-- the same of one place, where some were finished before
pub record AdvancesOne (answers : Answers) (guarded : List Guarded) (place : ℕ) (before after : Places)
    (old new : List ℕ) : Type 0 where
  pub kept : KeepsUnder before after
  pub waits : (g : Guarded) → slice_get guarded place ≡ Some g → has_all answers g.key ≡ false
      → is_waiting answers after place g.key ≡ true
  pub finished : (n : ℕ) → is_listed new n
      ≡ (is_listed old n || (is_listed (place ∷ []) n && complete_at answers guarded n))

-- ---- what is complete

-- the set has exactly the complete places, and each of them is under the names of its hosts, and under no other
pub record AreComplete (answers : Answers) (guarded : List Guarded) (complete : Complete) : Type 0 where
  pub places : (place : ℕ) → contains nat_cmp complete.places place ≡ complete_at answers guarded place
  pub served : (name : List ℕ) (place : ℕ) → stands_under complete.served name place
      ≡ (contains nat_cmp complete.places place && passes_at (λ g. has_name name g.key) guarded place)

-- these places were taken up among the complete ones
pub record EntersComplete (guarded : List Guarded) (entered : List ℕ) (before after : Complete) : Type 0 where
  pub places : Gains before.places after.places (is_listed entered)
  pub served : (name : List ℕ) (place : ℕ) → stands_under after.served name place
      ≡ ((is_listed entered place && passes_at (λ g. has_name name g.key) guarded place)
      || stands_under before.served name place)
