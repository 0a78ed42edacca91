use Rattle.std.proofs.Common.{◌≡◌, map, take}
use Rattle.ev_proxy.specs.Changing.{cluster_change, listener_change}
use Rattle.ev_proxy.proofs.changing.changes.Given as goal

abbrev pub invariant-loop-number : goal.invariant-loop-number
invariant-loop-number g l =
    (l.clusters ≡ map (cluster_change g.here) (take l.number-index l.numbers))
    × (l.listeners ≡ map (listener_change g.here) (take l.number-index l.numbers))
