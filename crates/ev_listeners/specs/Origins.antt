-- The listeners by where their chains began. A listener is in the group of each
-- of its chains' origins. Several may be in one, and stand in the order of names.
use Rattle.std.specs.Prelude.{◌≡◌, Bool, cond, List, filter, Option, Some}
use Rattle.std.specs.List.{list_any}
use Rattle.ev_types.specs.Origins.{origin_same}
use Rattle.ev_types.specs.declared.hosts.Host.{Host}
use Rattle.ev_types.specs.declared.origins.Origin.{Origin}
use Rattle.ev_model.specs.Connections.{shares_origin, shows_chain}
use Rattle.ev_model.specs.declared.pictures.ServedChain.{ServedChain}
use Rattle.ev_model.specs.declared.pictures.ServedListener.{ServedListener}
use Rattle.ev_layers.specs.Layers.{found}
use Rattle.ev_layers.specs.declared.table.Table.{Table}
use Rattle.ev_listeners.specs.Groups.{AreGrouped, group_of, with_listener, without_listener}

-- the groups by origin
abbrev pub OriginTable : Type 0
OriginTable = Table Origin (List ServedListener)

-- the chain began there
abbrev pub began_at : Origin → ServedChain → Bool
began_at origin chain = shares_origin (Some origin) chain.origin

-- one of these chains began there
abbrev pub one_began_at : Origin → List ServedChain → Bool
one_began_at origin chains = list_any (began_at origin) chains

-- a group with the listener in place of the one of its number, where it serves; else without it
abbrev pub group_after : Bool → ServedListener → List ServedListener → List ServedListener
group_after serves listener group =
    cond serves (with_listener listener (without_listener listener.number group)) (without_listener listener.number group)

-- the second table has at each of these origins what the change makes of the first one's group, and at each other the
-- same group
abbrev pub ChangesWhere : (Origin → Bool) → (List ServedListener → List ServedListener) → OriginTable → OriginTable → Type 0
ChangesWhere where_so change before after =
    (origin : Origin) → group_of (found origin_same after origin)
    ≡ cond (where_so origin) (change (group_of (found origin_same before origin))) (group_of (found origin_same before origin))

-- the same where one of these chains began
abbrev pub ChangesByChains : List ServedChain → (List ServedListener → List ServedListener) → OriginTable → OriginTable → Type 0
ChangesByChains chains change before after = ChangesWhere (λ origin. one_began_at origin chains) change before after

-- the same where a chain of this listener began
abbrev pub ChangesByListener : ServedListener → (List ServedListener → List ServedListener) → OriginTable → OriginTable → Type 0
ChangesByListener listener change before after = ChangesWhere (λ origin. shows_chain (Some origin) listener) change before after

-- the listeners that have a chain which began there
abbrev pub those_with : Origin → List ServedListener → List ServedListener
those_with origin listeners = filter (shows_chain (Some origin)) listeners

-- the table by origin has the listeners of each origin
abbrev pub AreByOrigin : List ServedListener → (Origin → Option (List ServedListener)) → Type 0
AreByOrigin listeners by_origin = (origin : Origin) → group_of (by_origin origin) ≡ those_with origin listeners

-- both tables have the listeners
pub record AreIndexed (listeners : List ServedListener) (by_address : Host → Option (List ServedListener)) (by_origin : Origin → Option (List ServedListener)) : Type 0 where
  pub addresses : AreGrouped listeners by_address
  pub origins : AreByOrigin listeners by_origin
