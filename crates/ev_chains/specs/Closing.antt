-- What connections are open on, and which of them a drain timeout closes.
-- The machine of whole listeners closes on a draining listener what no listener keeps;
-- here each chain drains by itself.
use Rattle.std.specs.Prelude.{ℕ, ◌≡◌, ◌==◌, ◌&&◌, Bool, not, List, filter, map, None}
use Rattle.std.specs.List.{list_any}
use Rattle.std.specs.BTreeSet.{BTreeSet, contains}
use Rattle.std.specs.Ordering.{nat_cmp}
use Rattle.ev_model.specs.World.{OpenMember}
use Rattle.ev_model.specs.Picture.{has_number}
use Rattle.ev_model.specs.Publishing.{ascending}
use Rattle.ev_ledger.specs.Members.{is_open_at}
use Rattle.ev_ledger.specs.declared.open_on.On.{On}

-- what a connection on the chain of this number is open on: the chain is its listener
abbrev pub on_chain : ℕ → On
on_chain number = record { listener = number; cluster = None; origin = None }

-- the connection is this worker's, and on one of these chains
abbrev pub is_closing : List ℕ → ℕ → OpenMember → Bool
is_closing draining worker member = (member.worker == worker) && has_number member.listener draining

-- the numbers of the worker's connections on these chains, from the least to the greatest
abbrev pub closed_by : List ℕ → ℕ → List OpenMember → List ℕ
closed_by draining worker opened = ascending (map (λ (m : OpenMember). m.connection) (filter (is_closing draining worker) opened))

-- the connections without those on these chains
abbrev pub left_open : List ℕ → ℕ → List OpenMember → List OpenMember
left_open draining worker opened = filter (λ (m : OpenMember). not (is_closing draining worker m)) opened

-- the connection has one of these numbers
abbrev pub is_numbered : List ℕ → OpenMember → Bool
is_numbered numbers member = (member.worker == 0) && has_number member.connection numbers

-- the connections without those of these numbers
abbrev pub closed_all : List ℕ → List OpenMember → List OpenMember
closed_all numbers opened = filter (λ m. not (is_numbered numbers m)) opened

-- the set has exactly the numbers of the first worker's connections on these chains
abbrev pub AreConnectionsOn : List ℕ → List OpenMember → BTreeSet ℕ → Type 0
AreConnectionsOn numbers opened conns =
    (conn : ℕ) → contains nat_cmp conns conn ≡ list_any (λ number. is_open_at number 0 conn opened) numbers
