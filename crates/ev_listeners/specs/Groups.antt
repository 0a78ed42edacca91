-- The listeners by TCP at an address. Pictures with several at one are allowed:
-- the first in the order of names takes the connections.
use Rattle.std.specs.Prelude.{◌≡◌, ◌&&◌, ℕ, Bool, cond, not, List, [], filter, Option, Some, None}
use Rattle.ev_types.specs.SameHosts.{host_same}
use Rattle.ev_types.specs.declared.hosts.Host.{Host}
use Rattle.ev_model.specs.declared.pictures.ServedListener.{ServedListener}
use Rattle.ev_layers.specs.Layers.{found}
use Rattle.ev_layers.specs.Rows.{put_before, without_number}
use Rattle.ev_layers.specs.declared.table.Table.{Table}

-- the group that a table has, or else no listener
abbrev pub group_of : Option (List ServedListener) → List ServedListener
group_of None = []
group_of (Some group) = group

-- a group without the listener of this number
abbrev pub without_listener : ℕ → List ServedListener → List ServedListener
without_listener number group = without_number (λ (l : ServedListener). l.number) number group

-- a group with one more listener, in the order of names
abbrev pub with_listener : ServedListener → List ServedListener → List ServedListener
with_listener listener group = put_before (λ (l : ServedListener). l.name) listener group

-- connections to this address reach the listener
abbrev pub is_reached_at : Host → ServedListener → Bool
is_reached_at address listener = not listener.udp && host_same listener.address address

-- the second table has at one address what the change makes of the first one's group,
-- and at each other address the same group
abbrev pub ChangesGroupAt : Host → (List ServedListener → List ServedListener) → Table Host (List ServedListener) → Table Host (List ServedListener) → Type 0
ChangesGroupAt at change before after =
    (address : Host) → group_of (found host_same after address)
    ≡ cond (host_same at address) (change (group_of (found host_same before address))) (group_of (found host_same before address))

-- the same where connections reach this listener
abbrev pub ChangesGroup : ServedListener → (List ServedListener → List ServedListener) → Table Host (List ServedListener) → Table Host (List ServedListener) → Type 0
ChangesGroup listener change before after =
    (address : Host) → group_of (found host_same after address)
    ≡ cond (is_reached_at address listener) (change (group_of (found host_same before address))) (group_of (found host_same before address))

-- the listeners that connections to this address reach
abbrev pub those_at : Host → List ServedListener → List ServedListener
those_at address listeners = filter (is_reached_at address) listeners

-- the table by address has the listeners at each address
abbrev pub AreGrouped : List ServedListener → (Host → Option (List ServedListener)) → Type 0
AreGrouped listeners by_address = (address : Host) → group_of (by_address address) ≡ those_at address listeners
