-- Chains that are found by their keys.
use Rattle.std.specs.Prelude.{ℕ, ◌≡◌, ◌==◌, Bool, cond, if◌then◌else◌, List, ◌∷◌, map, find, drop, slice_index, nat_eq, Option, Some, None, is_some}
use Rattle.std.specs.List.{list_any, position_from}
use Rattle.std.specs.Option.{option_map, option_or}
use Rattle.std.specs.Str.{str_to_ascii_lowercase}
use Rattle.indexmap.specs.IndexMap.{IndexMap, get}
use Rattle.indexmap.specs.IndexSet.{IndexSet, contains}
use Rattle.ev_chains.specs.declared.keys.ChainKey.{ChainKey}
use Rattle.ev_chains.specs.declared.matches.ChainMatch.{ChainMatch}
use Rattle.ev_chains.specs.declared.rows.Chain.{Chain}
use Rattle.ev_chains.specs.declared.rows.Row.{Row}
use Rattle.ev_chains.specs.Keys.{key_same}
use Rattle.ev_chains.specs.Rows.{keys_of, has_clash, match_of, row_has, has_port, chain_same, first_named}
use Rattle.ev_chains.specs.Names.{wild_names}

-- the number of a row that was found
abbrev pub number_in : Option Row → Option ℕ
number_in found = option_map (λ (row : Row). row.number) found

-- the row's chain equals this one
abbrev pub is_chain : Chain → Row → Bool
is_chain chain row = chain_same row.chain chain

-- the number of the row whose chain equals this one
abbrev pub number_for : Chain → List Row → Option ℕ
number_for chain rows = number_in (find (is_chain chain) rows)

-- the number of the row with this key
abbrev pub number_under : ChainKey → List Row → Option ℕ
number_under key rows = number_in (find (row_has key) rows)

-- the form `*.x` of a name at a place of it, which is a dot
abbrev pub wild_key : Option ℕ → List ℕ → ℕ → ChainKey
wild_key port name place = record { port = port; name = Some (42 ∷ drop place name) }

-- the number of the row with the form of a name at a place, where that is a dot
abbrev pub number_at_dot : Option ℕ → List ℕ → ℕ → List Row → Option ℕ
number_at_dot port name place rows = if slice_index name place == 46 then number_under (wild_key port name place) rows else None

-- the number of the row with the longest form `*.x` of a name
abbrev pub number_wild : Option ℕ → List ℕ → List Row → Option ℕ
number_wild port name rows = number_in (first_named port (map Some (wild_names name)) rows)

-- the same, or else the number of the row that takes any name
abbrev pub number_other : Option ℕ → List ℕ → List Row → Option ℕ
number_other port name rows = option_or (number_wild port name rows) (number_under record { port = port; name = None } rows)

-- the places of rows by their keys, from this place on: of several with one key that of the first
abbrev pub FindsFrom : {S : Type 0} → ℕ → List Row → IndexMap ChainKey ℕ S → Type 0
FindsFrom start rows places = (key : ChainKey) → get key_same places key ≡ position_from (row_has key) start rows

-- the ports of rows
abbrev pub HasPorts : {S : Type 0} → List Row → IndexSet ℕ S → Type 0
HasPorts rows ports = (port : ℕ) → contains nat_eq ports port ≡ list_any (has_port port) rows

-- a table of rows, and whether two of them clash
pub record AreListed {S T : Type 0} (rows : List Row) (places : IndexMap ChainKey ℕ S) (ports : IndexSet ℕ T) (clash : Bool) : Type 0 where
  pub finds : FindsFrom 0 rows places
  pub has_ports : HasPorts rows ports
  pub tells : clash ≡ has_clash (map match_of rows)

-- the key of a port with a name, or with none
abbrev pub key_with : Option ℕ → Option (List ℕ) → ChainKey
key_with port name = record { port = port; name = option_map str_to_ascii_lowercase name }

-- the keys of a port with each of these names
abbrev pub named_keys : Option ℕ → List (List ℕ) → List ChainKey
named_keys port names = map (λ name. key_with port (Some name)) names

-- a table has one of these keys
abbrev pub any_named : {S : Type 0} → IndexMap ChainKey ℕ S → List ChainKey → Bool
any_named places keys = list_any (λ key. is_some (get key_same places key)) keys

-- a table has one of the keys of a match
abbrev pub has_any : {S : Type 0} → IndexMap ChainKey ℕ S → ChainMatch → Bool
has_any places m = any_named places (keys_of m)

-- the second table has a place under these keys, and under each other what the first has
abbrev pub PutsUnder : {S T : Type 0} → List ChainKey → ℕ → IndexMap ChainKey ℕ S → IndexMap ChainKey ℕ T → Type 0
PutsUnder keys place before after = (key : ChainKey) → get key_same after key ≡ cond (list_any (λ own. key_same own key) keys) (Some place) (get key_same before key)
