-- Which connections a settle closes and moves, by the drain and by what is shown, and which it looks at.
use Rattle.std.specs.Prelude.{◌≡◌, ℕ, Bool, true, false, not, ◌&&◌, ◌||◌, ◌==◌, if◌then◌else◌, List, [], ◌∷◌, filter, map, Option, None, Some, is_some}
use Rattle.std.specs.List.{AllByRecursion}
use Rattle.std.specs.BTreeSet.{contains}
use Rattle.ev_model.specs.World.{OpenMember}
use Rattle.ev_model.specs.Picture.{has_number}
use Rattle.ev_ledger.specs.Entries.{key_order}
use Rattle.ev_model.specs.Connections.{is_chain_shown, is_member, listener_after, next_listener}
use Rattle.ev_model.specs.declared.pictures.Shown.{Shown}
use Rattle.ev_ledger.specs.declared.open_on.On.{On}
use Rattle.ev_ledger.specs.Members.{has_place, is_of_worker, is_open_at, is_open_from, member_on, on_in}
use Rattle.ev_drain.specs.Retired.{Retired, is_expired}
use Rattle.ev_retirement.specs.declared.closing.Closing.{Closing}
use Rattle.ev_retirement.specs.declared.asking.Asking.{Asking}
use Rattle.ev_retirement.specs.Asking.{AreAskedInOrder}
use Rattle.ev_retirement.specs.Holders.{HoldersParts}

-- the drain timeout of the connection's listener came, and no listener that is shown has its chain
abbrev pub closes : List Retired → Shown → OpenMember → Bool
closes drain shown member = is_expired drain member.listener && not (is_chain_shown member.origin shown)

-- its listener isn't shown, and another one has its chain
abbrev pub moves : Shown → OpenMember → Bool
moves shown member = is_some (next_listener shown member)

-- the drain timeout of its listener came, or it moves
abbrev pub is_due : List Retired → Shown → OpenMember → Bool
is_due drain shown member = is_expired drain member.listener || moves shown member

-- the numbers of the worker's connections that pass the test, in their order
abbrev pub numbers_where : (OpenMember → Bool) → ℕ → List OpenMember → List ℕ
numbers_where test worker opened =
    map (λ (m : OpenMember). m.connection) (filter (λ (m : OpenMember). is_of_worker worker m && test m) opened)

-- the worker's connection is of one of these numbers
abbrev pub is_member_among : ℕ → List ℕ → OpenMember → Bool
is_member_among worker numbers member = (member.worker == worker) && has_number member.connection numbers

-- the connections without the worker's of these numbers
abbrev pub closed_all : ℕ → List ℕ → List OpenMember → List OpenMember
closed_all worker numbers opened = filter (λ (m : OpenMember). not (is_member_among worker numbers m)) opened

-- the connection on the listener that it moves to; where it doesn't move, as it is
abbrev pub moved : Shown → OpenMember → OpenMember
moved shown member = record member { listener = listener_after shown member }

-- the connections, the worker's of this number once it has moved
abbrev pub moved_one : ℕ → ℕ → Shown → List OpenMember → List OpenMember
moved_one worker connection shown opened =
    map (λ (m : OpenMember). if is_member worker connection m then moved shown m else m) opened

-- the connections, the worker's of these numbers once they have moved, one after the other
abbrev pub moved_each : ℕ → List ℕ → Shown → List OpenMember → List OpenMember
moved_each worker [] shown opened = opened
moved_each worker (number ∷ numbers) shown opened = moved_each worker numbers shown (moved_one worker number shown opened)

-- what a connection is open on passes a test that looks at nothing else
abbrev pub is_passed : (OpenMember → Bool) → Option On → Bool
is_passed test None = false
is_passed test (Some on) = test (member_on 0 0 on)

-- the worker's connection of this number passes it
abbrev pub passes_at : (OpenMember → Bool) → ℕ → List OpenMember → ℕ → Bool
passes_at test worker opened connection = is_passed test (on_in worker connection opened)

-- the worker's next settle looks at its connection of this number
abbrev pub is_found : Closing → ℕ → ℕ → Bool
is_found closing worker connection = contains key_order closing.places (worker, connection)

-- a place is of this worker; its connection's number
abbrev pub is_place_of : ℕ → ℕ × ℕ → Bool
is_place_of worker place = place.0 == worker

abbrev pub number_of : ℕ × ℕ → ℕ
number_of place = place.1

-- the numbers of the worker's connections at these places
abbrev pub numbers_at : ℕ → List (ℕ × ℕ) → List ℕ
numbers_at worker places = map number_of (filter (is_place_of worker) places)

-- the numbers that the worker's next settle looks at
abbrev pub numbers_found : ℕ → Closing → List ℕ
numbers_found worker closing = numbers_at worker closing.places.keys

-- the connections at these places are looked at
abbrev pub ArePlacesFound : Closing → List (ℕ × ℕ) → Type 0
ArePlacesFound closing places =
    (worker connection : ℕ) → has_place worker connection places ≡ true → is_found closing worker connection ≡ true

-- those on this listener are
abbrev pub AreFoundOn : Closing → List OpenMember → ℕ → Type 0
AreFoundOn closing opened listener =
    (worker connection : ℕ) → is_open_at listener worker connection opened ≡ true → is_found closing worker connection ≡ true

-- those on each of these listeners are
abbrev pub AreFoundOnEach : Closing → List OpenMember → List ℕ → Type 0
AreFoundOnEach closing opened listeners = (number : ℕ) → has_number number listeners ≡ true → AreFoundOn closing opened number

-- those whose chains began with this generation are
abbrev pub AreFoundFrom : Closing → List OpenMember → ℕ → Type 0
AreFoundFrom closing opened number =
    (worker connection : ℕ) → is_open_from number worker connection opened ≡ true → is_found closing worker connection ≡ true

-- those whose chains began with each of these generations are
abbrev pub AreFoundFromEach : Closing → List OpenMember → List ℕ → Type 0
AreFoundFromEach closing opened numbers = (number : ℕ) → has_number number numbers ≡ true → AreFoundFrom closing opened number

-- what was looked at still is
pub record FindsMore (before after : Closing) : Type 0 where
  pub stays : (worker connection : ℕ) → is_found before worker connection ≡ true → is_found after worker connection ≡ true

-- the worker's connection of this number is no longer looked at
abbrev pub LeavesOne : ℕ → ℕ → Closing → Closing → Type 0
LeavesOne worker number before after =
    (w connection : ℕ) → is_found after w connection ≡ (not ((w == worker) && (connection == number)) && is_found before w connection)

-- each of these connections that is on a listener whose drain timeout came, or moves, is looked at
abbrev pub AreFound : Closing → List Retired → Shown → List OpenMember → Type 0
AreFound closing drain shown opened =
    AllByRecursion (λ (m : OpenMember). is_due drain shown m ≡ true → is_found closing m.worker m.connection ≡ true) opened

-- the worker's connection on this is looked at, where it is so
abbrev pub IsFoundWhereDue : Closing → List Retired → Shown → ℕ → ℕ → On → Type 0
IsFoundWhereDue closing drain shown worker connection on =
    is_due drain shown (member_on worker connection on) ≡ true → is_found closing worker connection ≡ true

-- where each of the first connections that is so was looked at, each of the second is
abbrev pub StillFinds : List Retired → Shown → Closing → Closing → List OpenMember → List OpenMember → Type 0
StillFinds drain shown before after opened left = AreFound before drain shown opened → AreFound after drain shown left

-- what is kept beside what holds generations
pub record AreTracked (asking : Asking) (closing : Closing) (holders : HoldersParts) : Type 0 where
  pub asked : AreAskedInOrder asking holders
  pub found : AreFound closing holders.drain holders.pictures.last.shown holders.ledger
