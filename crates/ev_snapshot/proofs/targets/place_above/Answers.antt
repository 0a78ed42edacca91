use Rattle.std.proofs.Common.{◌<◌, ◌+◌, sum, take, map, length, sym, ◌∙◌, arith}
use Rattle.ev_types.specs.declared.routes.WeightedCluster.{WeightedCluster}
use Rattle.ev_snapshot.proofs.Places.{reached, sum_more}
use Rattle.ev_snapshot.proofs.targets.place_above.Goals as goal

pub returns-then-n-sum : goal.returns-then-n-sum
returns-then-n-sum c =
    let clusters = c.args.clusters.now in
    let weight = λ (c : WeightedCluster). c.weight in
    let place = c.loop-place.place in
    let less : place < length clusters = omega arith in
    let above : c.args.n < sum (take (place + 1) (map weight clusters)) =
    grind (arith, sum_more weight clusters place c.index-clusters-place.result less) in
    sym (c.loop-place.invariant.rest ∙ reached weight clusters c.args.n place less above)
