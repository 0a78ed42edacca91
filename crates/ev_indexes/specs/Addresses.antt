-- Which generations hold an address. Source: listeners of Envoy's documentation:
-- two listeners of different names may not have one address.
use Rattle.std.specs.Prelude.{◌≡◌, ℕ, Bool, true, if◌then◌else◌, List, [], ◌∷◌, ◌++◌, Option, None, Some, IsSome, unwrap_or, option_to_list, map}
use Rattle.std.specs.List.{flat_map}
use Rattle.std.specs.Map.{lookup}
use Rattle.indexmap.specs.IndexMap.{IndexMap, get}
use Rattle.ev_types.specs.SameHosts.{socket_same}
use Rattle.ev_types.specs.declared.contents.Content.{Content}
use Rattle.ev_types.specs.declared.hosts.SocketAddress.{SocketAddress}
use Rattle.ev_types.specs.declared.rows.GenRow.{GenRow}
use Rattle.ev_types.specs.declared.rows.Live.{Live}
use Rattle.ev_model.specs.Live.{live_of}
use Rattle.ev_model.specs.Verdicts.{listening_address, shares_address}
use Rattle.ev_indexes.specs.Tables.{row_in}
use Rattle.ev_indexes.specs.Due.{has_number}
use Rattle.ev_indexes.specs.Watched.{numbers_without}

-- addresses, each with the numbers of the generations that hold it
abbrev pub AddressesKept : Type 0
AddressesKept = List (SocketAddress × List ℕ)

-- the numbers at an address; no entry is none
abbrev pub numbers_at : AddressesKept → SocketAddress → List ℕ
numbers_at kept address = unwrap_or (lookup (socket_same address) kept) []

-- at each address that has an entry there is a number
abbrev pub HaveNumbers : AddressesKept → Type 0
HaveNumbers kept = (address : SocketAddress) → IsSome (lookup (socket_same address) kept) → has_number (numbers_at kept address) ≡ true

-- a generation of this content listens at the address: of a cluster none does
abbrev pub listens_at : SocketAddress → Content → Bool
listens_at address content = shares_address (listening_address content) (Some address)

-- these numbers, where there is one
abbrev pub filled_or_none : List ℕ → Option (List ℕ)
filled_or_none [] = None
filled_or_none (number ∷ numbers) = Some (number ∷ numbers)

-- the entry at an address with this number after the others
abbrev pub entry_with : ℕ → AddressesKept → SocketAddress → Option (List ℕ)
entry_with number kept address = Some (numbers_at kept address ++ number ∷ [])

-- the number comes after those at the address, and at every other address the entry stays
abbrev pub EntersNumber : {S : Type 0} → IndexMap SocketAddress (List ℕ) S → IndexMap SocketAddress (List ℕ) S → SocketAddress → ℕ → Type 0
EntersNumber old new address number = (other : SocketAddress) → get socket_same new other
    ≡ (if socket_same address other then entry_with number old.entries address else get socket_same old other)

-- the entry at an address without this number; where no other number is there, there is no entry
abbrev pub entry_without : ℕ → AddressesKept → SocketAddress → Option (List ℕ)
entry_without number kept address = filled_or_none (numbers_without number (numbers_at kept address))

-- the number is gone at the address, and at every other address the entry stays
abbrev pub LeavesNumber : {S : Type 0} → IndexMap SocketAddress (List ℕ) S → IndexMap SocketAddress (List ℕ) S → SocketAddress → ℕ → Type 0
LeavesNumber old new address number = (other : SocketAddress) → get socket_same new other
    ≡ (if socket_same address other then entry_without number old.entries address else get socket_same old other)

-- the number comes after those at the address, and at every other address those of before
abbrev pub EntersAt : AddressesKept → AddressesKept → SocketAddress → ℕ → Type 0
EntersAt old new address number =
    (other : SocketAddress) → numbers_at new other ≡ numbers_at old other ++ (if socket_same address other then number ∷ [] else [])

-- the number is gone at the address, and at every other address those of before stay
abbrev pub LeavesAt : AddressesKept → AddressesKept → SocketAddress → ℕ → Type 0
LeavesAt old new address number = (other : SocketAddress) → numbers_at new other
    ≡ (if socket_same address other then numbers_without number (numbers_at old other) else numbers_at old other)

-- the generation of this number holds the address at which its content listens, after those that hold it already
abbrev pub HoldsAddress : AddressesKept → AddressesKept → ℕ → Content → Type 0
HoldsAddress old new number content =
    (address : SocketAddress) → numbers_at new address ≡ numbers_at old address ++ (if listens_at address content then number ∷ [] else [])

-- the generation of this number no longer holds the address at which its content listens, and no other address changes
abbrev pub ReleasesAddress : AddressesKept → AddressesKept → ℕ → Content → Type 0
ReleasesAddress old new number content = (address : SocketAddress) → numbers_at new address
    ≡ (if listens_at address content then numbers_without number (numbers_at old address) else numbers_at old address)

-- what is seen of the generations of these numbers
abbrev pub lives_numbered : List GenRow → List ℕ → List Live
lives_numbered rows numbers = map live_of (flat_map (λ number. option_to_list (row_in number rows)) numbers)

-- the same of the generation of one number, where it is found
abbrev pub lives_found : ℕ → List GenRow → List Live
lives_found number rows = map live_of (option_to_list (row_in number rows))

-- the same of those that hold an address
abbrev pub lives_listed : List GenRow → AddressesKept → SocketAddress → List Live
lives_listed rows kept address = lives_numbered rows (numbers_at kept address)
