use Rattle.std.proofs.Common.{◌≡◌, map}
use Rattle.ev_model.specs.World.{World}
use Rattle.ev_model_laws.specs.ByNumber.{rows_numbered}
use Rattle.ev_proxy.specs.Proxies.{IsAt}
use Rattle.ev_registry.specs.Views.{view_row}
use Rattle.ev_registry.proofs.views.rows_of.Given as goal

abbrev pub invariant-loop-drawn : goal.invariant-loop-drawn
invariant-loop-drawn l = (world : World) → IsAt l.proxy world → l.rows ≡ map (view_row world) (rows_numbered l.drawn world.rows)
