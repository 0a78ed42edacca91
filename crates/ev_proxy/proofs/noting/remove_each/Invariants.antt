use Rattle.std.proofs.Common.{◌≡◌, ◌≤◌, ◌+◌, ◌++◌, length, take}
use Rattle.ev_model.specs.World.{World}
use Rattle.ev_managers.specs.Managers.{AreForgotten, AreManagersKept}
use Rattle.ev_state.specs.States.{ManagesAt}
use Rattle.ev_proxy.specs.Proxies.{rows_gone, without_each}
use Rattle.ev_proxy.proofs.noting.remove_each.Given as goal

abbrev pub invariant-loop-number : goal.invariant-loop-number
invariant-loop-number l =
    AreManagersKept l.state.managers × AreForgotten l.state.managers
    × (length l.numbers ≤ l.deferred.1 + l.number-index)
    × ((world : World) → ManagesAt l.initial.state world → ManagesAt l.state (record world { rows = without_each (take l.number-index l.numbers) world.rows }))
    × ((world : World) → ManagesAt l.initial.state world → l.deferred.0 ≡ l.initial.deferred.0 ++ rows_gone (take l.number-index l.numbers) world.rows)
