-- Which filter chains of a listener are left for a connection:
-- by one criterion after the other, and nothing comes back.
use Rattle.std.specs.Prelude.{◌≡◌, ℕ, ◌*◌, ◌+◌, ◌^◌, true, false, List, [], ◌∷◌, codes, Some, None, map}
use Rattle.ev_types.specs.declared.events.Peer.{Peer}
use Rattle.ev_types.specs.declared.filter_chains.FilterChainMatch.{FilterChainMatch}
use Rattle.ev_types.specs.declared.filter_chains.SourceType.TheVariants.{SameIpOrLoopback, External}
use Rattle.ev_types.specs.declared.ips.Ip.{Ip}
use Rattle.ev_types.specs.declared.ips.Ip.TheVariants.{V4, V6}
use Rattle.ev_types.specs.declared.routes.Target.TheVariants.{One, Weighted, Elsewhere}
use Rattle.ev_types.specs.Ips.{range_about}
use Rattle.ev_model.specs.declared.pictures.Routing.{Routing}
use Rattle.ev_model.specs.declared.pictures.Routing.TheVariants.{Table, Tcp, Other}
use Rattle.ev_model.specs.declared.pictures.ServedChain.{ServedChain}
use Rattle.ev_model.specs.Narrowing.{Incoming, chains_left}
use Rattle.ev_model_rows.specs.Words.{no_criteria}

-- a chain that forwards to a cluster, by whose name it is distinguished from others
abbrev pub chain : List ℕ → FilterChainMatch → ServedChain
chain name criteria =
    record { place = None; origin = None; criteria = criteria; routing = Tcp (One name); lacks_secret = false }

-- the name of a chain
abbrev pub name_of : Routing → List ℕ
name_of (Table table) = []
name_of (Tcp (One name)) = name
name_of (Tcp (Weighted clusters)) = []
name_of (Tcp Elsewhere) = []
name_of Other = []

-- the names of the chains that are left
abbrev pub names_left : Incoming → List ServedChain → List (List ℕ)
names_left incoming chains = map (λ (c : ServedChain). name_of c.routing) (chains_left incoming chains)

-- a connection without TLS, of which it isn't said who connects, to port 443 of an address that is no IP address
abbrev pub plain : Incoming
plain = record { port = 443; ip = None; source = None; server_name = []; tls = false; alpn = [] }

-- the address 10.1.2.3
abbrev pub address : Ip
address = V4 (10 * 2 ^ 24 + 1 * 2 ^ 16 + 2 * 2 ^ 8 + 3)

-- a chain that asks for the port goes before one that asks for none, and is not given up where it asks for another name
abbrev pub NoWayBack : Type 0
NoWayBack = names_left (record plain { server_name = codes "y" })
    (chain (codes "port") (record no_criteria { destination_port = Some 443; server_names = codes "x" ∷ [] }) ∷ chain (codes "name") (record no_criteria { server_names = codes "y" ∷ [] }) ∷ [])
    ≡ []

-- the longest range that holds the address; of another family, or of no IP address, none does
abbrev pub Ranges : Type 0
Ranges =
    (names_left (record plain { ip = Some address })
    (chain (codes "8") (record no_criteria { prefix_ranges = range_about address 8 ∷ [] }) ∷ chain (codes "16") (record no_criteria { prefix_ranges = range_about address 16 ∷ [] }) ∷ chain (codes "none") no_criteria ∷ [])
    ≡ codes "16" ∷ [])
    × (names_left (record plain { ip = Some (V6 1) })
    (chain (codes "8") (record no_criteria { prefix_ranges = range_about address 8 ∷ [] }) ∷ chain (codes "none") no_criteria ∷ [])
    ≡ codes "none" ∷ [])
    × (names_left plain (chain (codes "8") (record no_criteria { prefix_ranges = range_about address 8 ∷ [] }) ∷ [])
    ≡ [])

-- chains for a name, for names that end with its last two labels, and for those that end with the last one
abbrev pub named : List ServedChain
named =
    chain (codes "last") (record no_criteria { server_names = codes "*.c" ∷ [] })
    ∷ chain (codes "two") (record no_criteria { server_names = codes "*.b.c" ∷ [] })
    ∷ chain (codes "whole") (record no_criteria { server_names = codes "a.b.c" ∷ [] })
    ∷ []

-- a name goes by itself, then by the longest end of it; ASCII letters in either case
abbrev pub Names : Type 0
Names =
    (names_left (record plain { server_name = codes "A.b.C" }) named ≡ codes "whole" ∷ [])
    × (names_left (record plain { server_name = codes "x.b.c" }) named ≡ codes "two" ∷ [])
    × (names_left (record plain { server_name = codes "b.c" }) named ≡ codes "last" ∷ [])
    × (names_left (record plain { server_name = codes "c" }) named ≡ [])

-- a chain for TLS takes what comes over TLS, and one that asks for no transport the rest
abbrev pub Transports : Type 0
Transports =
    (names_left (record plain { tls = true })
    (chain (codes "tls") (record no_criteria { transport_protocol = Some (codes "tls") }) ∷ chain (codes "none") no_criteria ∷ [])
    ≡ codes "tls" ∷ [])
    × (names_left plain
    (chain (codes "tls") (record no_criteria { transport_protocol = Some (codes "tls") }) ∷ chain (codes "none") no_criteria ∷ [])
    ≡ codes "none" ∷ [])

-- the first protocol that the connection offers and some chain asks for
abbrev pub Protocols : Type 0
Protocols = names_left (record plain { alpn = codes "h3" ∷ codes "h2" ∷ codes "http/1.1" ∷ [] })
    (chain (codes "old") (record no_criteria { application_protocols = codes "http/1.1" ∷ [] }) ∷ chain (codes "new") (record no_criteria { application_protocols = codes "h2" ∷ [] }) ∷ [])
    ≡ codes "new" ∷ []

-- who connects from an address of IPv4 and a port
abbrev pub peer : Ip → ℕ → Peer
peer ip port = record { host = record { address = []; port = port }; ip = Some ip }

-- the same connection from there
abbrev pub coming_from : Ip → ℕ → Incoming
coming_from ip port = record plain { source = Some (peer ip port) }

-- chains for a range of whoever connects directly, for a range of the source, for a port of it, and for none of these
abbrev pub sourced : List ServedChain
sourced =
    chain (codes "direct") (record no_criteria { direct_source_prefix_ranges = range_about address 24 ∷ [] })
    ∷ chain (codes "range") (record no_criteria { source_prefix_ranges = range_about address 16 ∷ [] })
    ∷ chain (codes "port") (record no_criteria { source_ports = 9 ∷ [] })
    ∷ chain (codes "none") no_criteria
    ∷ []

-- the direct range goes first, then the range, then the port; without a source all are left
abbrev pub Sources : Type 0
Sources =
    (names_left (coming_from address 9) sourced ≡ codes "direct" ∷ [])
    × (names_left (coming_from (V4 (10 * 2 ^ 24 + 1 * 2 ^ 16)) 9) sourced ≡ codes "range" ∷ [])
    × (names_left (coming_from (V4 (11 * 2 ^ 24)) 9) sourced ≡ codes "port" ∷ [])
    × (names_left (coming_from (V4 (11 * 2 ^ 24)) 10) sourced ≡ codes "none" ∷ [])
    × (names_left plain sourced ≡ codes "direct" ∷ codes "range" ∷ codes "port" ∷ codes "none" ∷ [])

-- chains for this machine, and for elsewhere
abbrev pub typed : List ServedChain
typed =
    chain (codes "same") (record no_criteria { source_type = Some SameIpOrLoopback })
    ∷ chain (codes "external") (record no_criteria { source_type = Some External })
    ∷ []

-- who connects by a pipe
abbrev pub from_pipe : Peer
from_pipe = record { host = record { address = codes "pipe:x"; port = 0 }; ip = None }

-- this machine's: a loopback address, the address that the connection comes to, and one that is no IP address
abbrev pub SourceTypes : Type 0
SourceTypes =
    (names_left (coming_from (V4 (127 * 2 ^ 24 + 2)) 9) typed ≡ codes "same" ∷ [])
    × (names_left (coming_from (V6 1) 9) typed ≡ codes "same" ∷ [])
    × (names_left (record (coming_from address 9) { ip = Some address }) typed ≡ codes "same" ∷ [])
    × (names_left (record plain { source = Some from_pipe }) typed ≡ codes "same" ∷ [])
    × (names_left (coming_from address 9) typed ≡ codes "external" ∷ [])
    × (names_left (coming_from (V6 2) 9) typed ≡ codes "external" ∷ [])
