use Rattle.ev_proxy.specs.Proxies.{IsAt}
use Rattle.ev_registry.specs.Pasts.{parts_of, world_before}
use Rattle.ev_registry.proofs.steps.make_anew.Given as goal

abbrev pub invariant-loop-place : goal.invariant-loop-place
invariant-loop-place l = IsAt l.proxy (world_before l.place (parts_of l.past))
