-- The table by which the rows that a response made are found by address.
use Rattle.std.specs.Prelude.{◌≡◌, ◌++◌, ℕ, if◌then◌else◌, List, [], ◌∷◌, Option, Some}
use Rattle.std.specs.Option.{unwrap_or}
use Rattle.indexmap.specs.IndexMap.{IndexMap, get}
use Rattle.ev_types.specs.SameHosts.{socket_same}
use Rattle.ev_types.specs.declared.hosts.SocketAddress.{SocketAddress}
use Rattle.ev_model.specs.Verdicts.{shares_address}
use Rattle.ev_verdicts.specs.Judged.{MadeKept, names_at}

-- the names that a table has at an address; no entry is none
abbrev pub names_in : {S : Type 0} → IndexMap SocketAddress (List (List ℕ)) S → SocketAddress → List (List ℕ)
names_in table address = unwrap_or (get socket_same table address) []

-- the names at each address are what a search finds
abbrev pub AreByAddress : {S : Type 0} → MadeKept → IndexMap SocketAddress (List (List ℕ)) S → Type 0
AreByAddress made table = (address : SocketAddress) → names_in table address ≡ names_at address made

-- the new table has the name with its address after the others
abbrev pub AddsName : {S : Type 0} → IndexMap (List ℕ) (Option SocketAddress) S → IndexMap (List ℕ) (Option SocketAddress) S → List ℕ → Option SocketAddress → Type 0
AddsName old new name address = new.entries ≡ old.entries ++ (name, address) ∷ []

-- at the address, where there is one, the new table has the name after the others,
-- and at each other the names that it had
abbrev pub AddsAt : {S : Type 0} → IndexMap SocketAddress (List (List ℕ)) S → IndexMap SocketAddress (List (List ℕ)) S → List ℕ → Option SocketAddress → Type 0
AddsAt old new name address = (a : SocketAddress) → names_in new a ≡ names_in old a ++ (if shares_address address (Some a) then name ∷ [] else [])

-- at the address the new table has the name alone, and at each other what it had
abbrev pub StartsAt : {S : Type 0} → IndexMap SocketAddress (List (List ℕ)) S → IndexMap SocketAddress (List (List ℕ)) S → List ℕ → SocketAddress → Type 0
StartsAt old new name address =
    (a : SocketAddress) → get socket_same new a ≡ (if socket_same address a then Some (name ∷ []) else get socket_same old a)
