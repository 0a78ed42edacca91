-- What filter chains are found by: the values of a criterion, as keys.
-- A key begins with a mark that says of which criterion it is, of which family of IP addresses,
-- or that by the criterion nothing is asked for.
use Rattle.std.specs.Prelude.{ℕ, ◌+◌, ◌++◌, List, [], ◌∷◌, map}
use Rattle.std.specs.List.{flat_map}
use Rattle.std.specs.Hash as fed
use Rattle.ev_types.specs.declared.ips.Ip.{Ip}
use Rattle.ev_types.specs.declared.ips.Ip.TheVariants.{V4, V6}
use Rattle.ev_types.specs.declared.ips.CidrRange.{CidrRange}
use Rattle.ev_types.specs.declared.filter_chains.FilterChainMatch.{FilterChainMatch}
use Rattle.ev_types.specs.FilterChains.{ports}
use Rattle.ev_listener_json.specs.declared.chain_keys.Criterion.{Criterion}
use Rattle.ev_listener_json.specs.declared.chain_keys.Criterion.TheVariants.{Port, Range, Name, Protocol, DirectSource, SourceRange, SourcePort}

-- a mark, a prefix length and bits
abbrev pub number_key : ℕ → ℕ → ℕ → List ℕ
number_key mark length bits = mark ∷ length ∷ bits ∷ []

-- a mark and a text
abbrev pub text_key : ℕ → List ℕ → List ℕ
text_key mark text = mark ∷ 0 ∷ 0 ∷ text

-- a mark alone
abbrev pub bare_key : ℕ → List ℕ
bare_key mark = text_key mark []

-- the key of a port, under a mark
abbrev pub port_key : ℕ → ℕ → List ℕ
port_key mark port = number_key mark 0 port

-- the key of the first bits of an address, under a mark for IPv4 and the next one for IPv6
abbrev pub bits_key : ℕ → ℕ → Ip → List ℕ
bits_key mark length (V4 bits) = number_key mark length bits
bits_key mark length (V6 bits) = number_key (mark + 1) length bits

abbrev pub range_key : ℕ → CidrRange → List ℕ
range_key mark range = bits_key mark range.prefix_len range.prefix

-- these keys, or where there is none the one of asking for nothing
abbrev pub or_bare : ℕ → List (List ℕ) → List (List ℕ)
or_bare mark [] = bare_key mark ∷ []
or_bare mark (key ∷ keys) = key ∷ keys

-- the keys of what a match asks for by a criterion: each criterion has marks of its own
abbrev pub keys_by : Criterion → FilterChainMatch → List (List ℕ)
keys_by Port m = or_bare 0 (map (port_key 1) (ports m))
keys_by Range m = or_bare 2 (map (range_key 3) m.prefix_ranges)
keys_by Name m = or_bare 5 (map (text_key 6) m.server_names)
keys_by Protocol m = or_bare 7 (map (text_key 8) m.application_protocols)
keys_by DirectSource m = or_bare 9 (map (range_key 10) m.direct_source_prefix_ranges)
keys_by SourceRange m = or_bare 12 (map (range_key 13) m.source_prefix_ranges)
keys_by SourcePort m = or_bare 15 (map (port_key 16) m.source_ports)

-- what a hasher is fed of a key
abbrev pub key_hash_input : List ℕ → fed.HashWrites
key_hash_input (mark ∷ length ∷ bits ∷ text) = fed.u8 mark ++ fed.u8 length ++ fed.u128 bits ++ flat_map fed.u8 text
key_hash_input other = []
