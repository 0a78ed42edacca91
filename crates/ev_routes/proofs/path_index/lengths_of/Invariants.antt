use Rattle.std.proofs.Common.{take}
use Rattle.ev_routes.specs.Paths.{AreCovered}
use Rattle.ev_routes.proofs.path_index.lengths_of.Given as goal

abbrev pub invariant-loop-route : goal.invariant-loop-route
invariant-loop-route l = AreCovered l.lengths (take l.route-index l.routes)
