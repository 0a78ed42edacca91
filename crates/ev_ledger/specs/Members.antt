-- The open connections as the ledger has them: in one order, by worker and number,
-- so that those of a worker are together.
use Rattle.std.specs.Prelude.{◌≡◌, ℕ, Bool, false, ⊤, ◌&&◌, ◌==◌, if◌then◌else◌, List, [], ◌∷◌, ◌++◌, length, filter, find, map, Option, None, Some}
use Rattle.std.specs.List.{list_any}
use Rattle.std.specs.List.Sorted.{IsStrictlySortedBy}
use Rattle.std.specs.Option.{option_map}
use Rattle.std.specs.Ordering.{ordering_then, nat_cmp, is_le}
use Rattle.std.specs.declared.cmp.Ordering.{Ordering}
use Rattle.ev_types.specs.declared.origins.Origin.{Origin}
use Rattle.ev_model.specs.World.{OpenMember}
use Rattle.ev_model.specs.Sorted.{put_by, sorted_by}
use Rattle.ev_model.specs.Dead.{is_open_on}
use Rattle.ev_model.specs.Connections.{is_member, is_open}
use Rattle.ev_ledger.specs.declared.open_on.On.{On}

-- connections compare by worker, and those of one worker by number
abbrev pub place_order : OpenMember → OpenMember → Ordering
place_order one other = ordering_then (nat_cmp one.worker other.worker) (nat_cmp one.connection other.connection)

-- the first comes before the second, or they are of one worker and number
abbrev pub member_before : OpenMember → OpenMember → Bool
member_before one other = is_le (place_order one other)

-- open connections by worker and number
abbrev pub in_order : List OpenMember → List OpenMember
in_order opened = sorted_by member_before opened

-- a ledger has exactly these open connections
abbrev pub HasOpened : List OpenMember → List OpenMember → Type 0
HasOpened ledger opened = ledger ≡ in_order opened

-- whatever open connections the first ledger has, the second has what this change makes of them
abbrev pub HasOpenedAfter : (List OpenMember → List OpenMember) → List OpenMember → List OpenMember → Type 0
HasOpenedAfter change before after =
    (opened : List OpenMember) → HasOpened before opened → HasOpened after (change opened)

-- whatever open connections a ledger has, this is the answer of the question about them
abbrev pub IsAnswerOf : {A : Type 0} → (List OpenMember → A) → List OpenMember → A → Type 0
IsAnswerOf question ledger answer = (opened : List OpenMember) → HasOpened ledger opened → answer ≡ question opened

-- whatever open connections the first ledger has, the second has one more after them
abbrev pub Opens : OpenMember → List OpenMember → List OpenMember → Type 0
Opens member before after = HasOpenedAfter (λ opened. opened ++ member ∷ []) before after

-- the connections with one more, in their order
abbrev pub with_member : OpenMember → List OpenMember → List OpenMember
with_member member members = put_by member_before member members

-- how many of these connections are open on the generation of this number, as its listener or its cluster
abbrev pub count_of : ℕ → List OpenMember → ℕ
count_of number opened = length (filter (is_open_on number) opened)

-- a worker's connection of this number, which is open on this
abbrev pub member_on : ℕ → ℕ → On → OpenMember
member_on worker connection on =
    record { worker = worker; connection = connection; listener = on.listener; cluster = on.cluster; origin = on.origin }

-- the connection on another listener
abbrev pub on_listener : ℕ → OpenMember → OpenMember
on_listener listener member = record member { listener = listener }

-- the connections once the worker's one of this number, where it is open, is on this listener
abbrev pub moved_to : ℕ → ℕ → ℕ → List OpenMember → List OpenMember
moved_to worker connection listener opened =
    map (λ (m : OpenMember). if is_member worker connection m then on_listener listener m else m) opened

-- what a connection is open on
abbrev pub on_of : OpenMember → On
on_of member = record { listener = member.listener; cluster = member.cluster; origin = member.origin }

-- what the worker's connection of this number is open on, where it is among these
abbrev pub on_in : ℕ → ℕ → List OpenMember → Option On
on_in worker connection members = option_map on_of (find (is_member worker connection) members)

-- a connection of this worker and number is among these, and is on this listener
abbrev pub is_open_at : ℕ → ℕ → ℕ → List OpenMember → Bool
is_open_at listener worker connection members =
    list_any (λ (m : OpenMember). is_member worker connection m && (m.listener == listener)) members

-- the chain began with the generation of this number
abbrev pub is_begun_at : ℕ → Option Origin → Bool
is_begun_at number None = false
is_begun_at number (Some origin) = origin.listener == number

-- a connection of this worker and number is among these, and its chain began with this generation
abbrev pub is_open_from : ℕ → ℕ → ℕ → List OpenMember → Bool
is_open_from number worker connection members =
    list_any (λ (m : OpenMember). is_member worker connection m && is_begun_at number m.origin) members

-- one of these places is of this worker and number
abbrev pub has_place : ℕ → ℕ → List (ℕ × ℕ) → Bool
has_place worker connection places = list_any (λ (p : ℕ × ℕ). (p.0 == worker) && (p.1 == connection)) places

-- these places are those of the connections on a listener
abbrev pub ArePlacesOn : ℕ → List OpenMember → List (ℕ × ℕ) → Type 0
ArePlacesOn listener members places =
    (worker connection : ℕ) → has_place worker connection places ≡ is_open_at listener worker connection members

-- these places are those of the connections whose chains began with a generation
abbrev pub ArePlacesFrom : ℕ → List OpenMember → List (ℕ × ℕ) → Type 0
ArePlacesFrom number members places =
    (worker connection : ℕ) → has_place worker connection places ≡ is_open_from number worker connection members

-- the connections are in the order of their workers and numbers, and no two have one
abbrev pub AreInOrder : List OpenMember → Type 0
AreInOrder members = IsStrictlySortedBy place_order members

-- no two of these connections are of one worker and number
abbrev pub AreApart : List OpenMember → Type 0
AreApart [] = ⊤
AreApart (member ∷ members) = (is_open members member.worker member.connection ≡ false) × AreApart members

-- the connection is this worker's
abbrev pub is_of_worker : ℕ → OpenMember → Bool
is_of_worker worker member = member.worker == worker
