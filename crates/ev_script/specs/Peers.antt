-- The ends of a connection, by the members of its line:
-- where it is meant to go, who connects, and where it was delivered.
use Rattle.std.specs.Prelude.{ℕ, List, [], ◌∷◌, if◌then◌else◌, codes, Option, None, Some, option_map, option_and_then}
use Rattle.serde_json.specs.Data.{Data}
use Rattle.ev_types.specs.Ips.{ip_of}
use Rattle.ev_types.specs.declared.hosts.Host.{Host}
use Rattle.ev_types.specs.declared.events.Peer.{Peer}
use Rattle.ev_script.specs.declared.peers.Ends.{Ends}
use Rattle.ev_script.specs.Members.{has_only, member_or}
use Rattle.ev_script.specs.LineForms.{host_in}

-- the end at an address and port
abbrev pub peer_of : Host → Peer
peer_of host = record { host = host; ip = ip_of host.address }

-- an end of a connection: an object with an address and a port, and no other member
abbrev pub peer_in : Data → Option Peer
peer_in tree = if has_only (codes "address" ∷ codes "port" ∷ []) tree then option_map peer_of (host_in tree) else None

-- the same, as one that is said
abbrev pub maybe_peer_in : Data → Option (Option Peer)
maybe_peer_in tree = option_map (λ (peer : Peer). Some peer) (peer_in tree)

-- the end that a member is: none is said where it isn't given
abbrev pub peer_at : List ℕ → Data → Option (Option Peer)
peer_at name tree = member_or None maybe_peer_in name tree

-- the ends of a connection; without a source it isn't said who connects,
-- and without the last one it was delivered where it is meant to go
abbrev pub ends_in : Data → Option Ends
ends_in tree = option_and_then
    (λ address. option_and_then
    (λ source. option_map (λ redirected_to. record { address = address; source = source; redirected_to = redirected_to })
    (peer_at (codes "redirectedTo") tree))
    (peer_at (codes "source") tree))
    (host_in tree)
