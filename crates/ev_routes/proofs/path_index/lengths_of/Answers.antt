use Rattle.std.proofs.Common.{arith}
use Rattle.ev_routes.proofs.Firsts.{covered_all, covered_more}
use Rattle.ev_routes.proofs.path_index.lengths_of.Goals as goal

pub loop-route-preserved : goal.loop-route-preserved
loop-route-preserved c =
    covered_more c.loop-route.lengths c.enter_route.new.lengths c.args.routes.now c.loop-route.route-index c.route-item.result
    (omega arith) c.route-item.is c.in_ok-enter_route.ensures.keeps c.in_ok-enter_route.ensures.covers c.loop-route.invariant

pub returns : goal.returns
returns c = covered_all c.loop-route.lengths c.args.routes.now c.loop-route.route-index (omega arith) c.loop-route.invariant
