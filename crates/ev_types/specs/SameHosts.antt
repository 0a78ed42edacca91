-- When hosts and their rows are equal, and which hosts are in rows.
use Rattle.std.specs.Prelude.{ℕ, suc, ◌≤◌, Bool, true, ◌≡◌, ◌&&◌, ◌==◌, ◌++◌, if◌then◌else◌, List, [], ◌∷◌, Option, None, Some, length, option_map}
use Rattle.std.specs.List.{list_any}
use Rattle.std.specs.Bool.{Decides}
use Rattle.std.specs.Map.{lookup}
use Rattle.std.specs.Option.{option_or}
use Rattle.std.specs.Hash as fed
use Rattle.std.specs.Str.{bytes_eq}
use Rattle.std.proofs.Common.{ap}
use lib.Pointwise.{pointwise, pointwise_decides}
use Rattle.ev_types.specs.declared.hosts.Host.{Host}
use Rattle.ev_types.specs.declared.hosts.SocketAddress.{SocketAddress}
use Rattle.ev_types.specs.Hosts.{HostRowParts}
use Rattle.ev_types.specs.Same.{bool_same, bool_decides, both_decide, decides_as, bytes_decide, numbers_decide}

-- the same address and port
abbrev pub host_same : Host → Host → Bool
host_same a b = bytes_eq a.address b.address && (a.port == b.port)

-- what a hasher is fed of a host
abbrev pub host_hash_input : Host → fed.HashWrites
host_hash_input host = fed.str host.address ++ fed.u16 host.port

-- the same host, by the same protocol
abbrev pub socket_same : SocketAddress → SocketAddress → Bool
socket_same a b = host_same a.host b.host && bool_same a.udp b.udp

-- what a hasher is fed of a socket address
abbrev pub socket_hash_input : SocketAddress → fed.HashWrites
socket_hash_input socket = host_hash_input socket.host ++ fed.bool socket.udp

-- the same host, weight, priority and use
abbrev pub host_row_same : HostRowParts → HostRowParts → Bool
host_row_same a b = host_same a.host b.host && (a.weight == b.weight) && (a.priority == b.priority) && bool_same a.usable b.usable

-- the same rows in the same order
abbrev pub rows_same : List HostRowParts → List HostRowParts → Bool
rows_same a b = pointwise host_row_same a b

-- the host is among these
abbrev pub has_host : Host → List HostRowParts → Bool
has_host host rows = list_any (λ (h : HostRowParts). host_same h.host host) rows

-- the place of the first row of the host
abbrev pub place_of : Host → List HostRowParts → Option ℕ
place_of host [] = None
place_of host (row ∷ rows) = if host_same row.host host then Some 0 else option_map suc (place_of host rows)

-- each host of the rows is found with the place of its first row, and no other host is found
abbrev pub ArePlacesIn : List HostRowParts → List (Host × ℕ) → Type 0
ArePlacesIn rows places = (host : Host) → lookup (host_same host) places ≡ place_of host rows

-- the host has this place where it had none, and each other host has what it had
abbrev pub Puts : List (Host × ℕ) → List (Host × ℕ) → Host → ℕ → Type 0
Puts old new host place =
    (h : Host) → lookup (host_same h) new ≡ option_or (lookup (host_same h) old) (if host_same host h then Some place else None)

-- this many hosts, or more, are in each list that has all hosts of the rows
abbrev pub NeedsHosts : List HostRowParts → ℕ → Type 0
NeedsHosts rows count = (hosts : List Host) → ((host : Host) → has_host host rows ≡ true → list_any (host_same host) hosts ≡ true) → count ≤ length hosts

pub host_decides : (a b : Host) → Decides (host_same a b) (a ≡ b)
host_decides a b = decides_as (both_decide (bytes_decide a.address b.address) (numbers_decide a.port b.port))
    (λ (p, q). λ i. record { address = p i; port = q i })
    (λ e. (ap (λ (h : Host). h.address) e, ap (λ (h : Host). h.port) e))

pub socket_decides : (a b : SocketAddress) → Decides (socket_same a b) (a ≡ b)
socket_decides a b = decides_as (both_decide (host_decides a.host b.host) (bool_decides a.udp b.udp))
    (λ p. λ i. record { host = p.0 i; udp = p.1 i })
    (λ e. (ap (λ (s : SocketAddress). s.host) e, ap (λ (s : SocketAddress). s.udp) e))

pub host_row_decides : (a b : HostRowParts) → Decides (host_row_same a b) (a ≡ b)
host_row_decides a b = decides_as
    (both_decide (both_decide (both_decide (host_decides a.host b.host) (numbers_decide a.weight b.weight)) (numbers_decide a.priority b.priority)) (bool_decides a.usable b.usable))
    (λ p. λ i. record { host = p.0.0.0 i; weight = p.0.0.1 i; priority = p.0.1 i; usable = p.1 i })
    (λ e. (((ap (λ (r : HostRowParts). r.host) e, ap (λ (r : HostRowParts). r.weight) e), ap (λ (r : HostRowParts). r.priority) e), ap (λ (r : HostRowParts). r.usable) e))

pub rows_decide : (a b : List HostRowParts) → Decides (rows_same a b) (a ≡ b)
rows_decide = pointwise_decides host_row_decides
