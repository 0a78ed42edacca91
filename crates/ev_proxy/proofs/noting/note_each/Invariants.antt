use Rattle.std.proofs.Common.{◌≡◌, take}
use Rattle.ev_model.specs.World.{World}
use Rattle.ev_state.specs.States.{ManagesAt}
use Rattle.ev_proxy.specs.Proxies.{noted_each}
use Rattle.ev_proxy.proofs.noting.note_each.Given as goal

abbrev pub invariant-loop-number : goal.invariant-loop-number
invariant-loop-number l =
    (world : World) → ManagesAt l.state world
    → l.holders ≡ record l.initial.holders { drain = noted_each world.rows (take l.number-index l.numbers) l.initial.holders.drain }
