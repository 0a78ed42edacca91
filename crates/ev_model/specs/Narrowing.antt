-- Which filter chains of a listener are left for a connection:
-- by one criterion after the other they are narrowed to those that ask for the best value that any of them asks for,
-- or else to those that ask for none; and nothing comes back. Source:
-- the order of matching in Envoy's `FilterChainMatch`.
use Rattle.std.specs.Prelude.{ℕ, ◌==◌, ◌/◌, ◌^◌, Bool, not, ◌&&◌, ◌||◌, if◌then◌else◌, List, [], ◌∷◌, ◌++◌, filter, find, length, codes, Option, Some, None, is_some}
use Rattle.std.specs.Option.{option_eq}
use Rattle.std.specs.List.{list_any}
use Rattle.std.specs.Str.{bytes_eq, str_to_ascii_lowercase}
use Rattle.ev_types.specs.declared.filter_chains.FilterChainMatch.{FilterChainMatch}
use Rattle.ev_types.specs.declared.filter_chains.SourceType.{SourceType}
use Rattle.ev_types.specs.declared.filter_chains.SourceType.TheVariants.{SameIpOrLoopback, External}
use Rattle.ev_types.specs.declared.events.Peer.{Peer}
use Rattle.ev_types.specs.declared.ips.Ip.{Ip}
use Rattle.ev_types.specs.declared.ips.Ip.TheVariants.{V4, V6}
use Rattle.ev_types.specs.FilterChains.{nat_same, source_type_same, has_value, ports, prefix_ranges, server_names, transports, application_protocols, direct_ranges, source_types, source_ranges, source_ports, asks_source}
use Rattle.ev_types.specs.Ips.{ip_same, cidr_range_same, ranges_about}
use Rattle.ev_model.specs.declared.pictures.ServedChain.{ServedChain}

-- what a connection brings that chains ask for: the end that it is taken to come to,
-- what it says of itself, and who connects, where that is said
pub record Incoming : Type 0 where
  pub port : ℕ
  pub ip : Option Ip
  pub source : Option Peer
  pub server_name : List ℕ
  pub tls : Bool
  pub alpn : List (List ℕ)

-- some chain asks for this value
abbrev pub is_asked : {A : Type 0} → (A → A → Bool) → (FilterChainMatch → List A) → List ServedChain → A → Bool
is_asked same values chains value = list_any (λ (c : ServedChain). has_value same (values c.criteria) value) chains

-- the chains that ask for the value, or where there is none, for nothing
abbrev pub chains_with : {A : Type 0} → (A → A → Bool) → (FilterChainMatch → List A) → List ServedChain → Option A → List ServedChain
chains_with same values chains (Some value) = filter (λ (c : ServedChain). has_value same (values c.criteria) value) chains
chains_with same values chains None = filter (λ (c : ServedChain). length (values c.criteria) == 0) chains

-- narrowed by one criterion: to the first value, of those that the connection brings, the best first,
-- that some chain asks for
abbrev pub narrowed : {A : Type 0} → (A → A → Bool) → (FilterChainMatch → List A) → List A → List ServedChain → List ServedChain
narrowed same values brought chains = chains_with same values chains (find (is_asked same values chains) brought)

-- what follows each dot of a name, after a star and the dot
abbrev pub wildcards : List ℕ → List (List ℕ)
wildcards [] = []
wildcards (byte ∷ rest) = if byte == 46 then (codes "*" ++ byte ∷ rest) ∷ wildcards rest else wildcards rest

-- a name goes by itself, then by a star and what follows from each later dot on
abbrev pub names_brought : List ℕ → List (List ℕ)
names_brought [] = []
names_brought (byte ∷ rest) = (byte ∷ rest) ∷ wildcards rest

-- the transport protocol of a connection
abbrev pub transport_of : Bool → List ℕ
transport_of tls = if tls then codes "tls" else codes "raw_buffer"

-- an address by which a machine reaches itself: one of 127.0.0.0/8, or ::1
abbrev pub is_loopback : Ip → Bool
is_loopback (V4 bits) = bits / 2 ^ 24 == 127
is_loopback (V6 bits) = bits == 1

-- a connection comes from this machine where its address is no IP address, a loopback one, or the one that it comes to
abbrev pub source_type_of : Option Ip → Option Ip → SourceType
source_type_of local_ip None = SameIpOrLoopback
source_type_of local_ip (Some ip) = if is_loopback ip || option_eq ip_same local_ip (Some ip) then SameIpOrLoopback else External

-- narrowed by each of the criteria of where a connection goes and what it offers
abbrev pub by_port : Incoming → List ServedChain → List ServedChain
by_port incoming chains = narrowed nat_same ports (incoming.port ∷ []) chains

abbrev pub by_address : Incoming → List ServedChain → List ServedChain
by_address incoming chains = narrowed cidr_range_same prefix_ranges (ranges_about incoming.ip) chains

abbrev pub by_server_name : Incoming → List ServedChain → List ServedChain
by_server_name incoming chains = narrowed bytes_eq server_names (names_brought (str_to_ascii_lowercase incoming.server_name)) chains

abbrev pub by_transport : Incoming → List ServedChain → List ServedChain
by_transport incoming chains = narrowed bytes_eq transports (transport_of incoming.tls ∷ []) chains

abbrev pub by_protocol : Incoming → List ServedChain → List ServedChain
by_protocol incoming chains = narrowed bytes_eq application_protocols incoming.alpn chains

-- narrowed by each of the criteria of where it comes from
abbrev pub by_direct_source : Peer → List ServedChain → List ServedChain
by_direct_source source chains = narrowed cidr_range_same direct_ranges (ranges_about source.ip) chains

abbrev pub by_source_type : Option Ip → Peer → List ServedChain → List ServedChain
by_source_type local_ip source chains = narrowed source_type_same source_types (source_type_of local_ip source.ip ∷ []) chains

abbrev pub by_source_range : Peer → List ServedChain → List ServedChain
by_source_range source chains = narrowed cidr_range_same source_ranges (ranges_about source.ip) chains

abbrev pub by_source_port : Peer → List ServedChain → List ServedChain
by_source_port source chains = narrowed nat_same source_ports (source.host.port ∷ []) chains

-- by all four, in this order, where it is said who connects
abbrev pub by_source : Option Ip → Option Peer → List ServedChain → List ServedChain
by_source local_ip None chains = chains
by_source local_ip (Some source) chains =
    by_source_port source (by_source_range source (by_source_type local_ip source (by_direct_source source chains)))

-- by port, address, server name, transport protocol and application protocols, in this order
abbrev pub by_destination : Incoming → List ServedChain → List ServedChain
by_destination incoming chains =
    by_protocol incoming (by_transport incoming (by_server_name incoming (by_address incoming (by_port incoming chains))))

-- the chains that are left
abbrev pub chains_left : Incoming → List ServedChain → List ServedChain
chains_left incoming chains = by_source incoming.ip incoming.source (by_destination incoming chains)

-- one of these chains asks for a source, and it isn't said who connects
abbrev pub lacks_source : Incoming → List ServedChain → Bool
lacks_source incoming chains = not (is_some incoming.source) && list_any (λ (c : ServedChain). asks_source c.criteria) chains
