use Rattle.std.proofs.Common.{◌∙◌, ◌/◌, List, sym, ap}
use Rattle.ev_types.specs.Weights.{weight_sum}
use Rattle.ev_types.specs.declared.routes.Target.{Target}
use Rattle.ev_types.specs.declared.routes.WeightedCluster.{WeightedCluster}
use Rattle.ev_model.specs.Choice.{cluster_named, course_in, forwarded, name_picked}
use Rattle.ev_snapshot.proofs.snapshot.Snapshot.forward.Goals as goal

pub returns-in-Weighted : goal.returns-in-Weighted
returns-in-Weighted c =
    let pick = c.args.pick in
    let clusters = c.clusters-clusters.ensures.clusters in
    let name = c.name_picked.ensures ∙ ap (λ (cs : List WeightedCluster). name_picked cs pick) clusters in
    let sum = c.weight_sum.ensures ∙ ap weight_sum clusters in
    c.go_to-in-Weighted.ensures
    ∙ (λ i. course_in (cluster_named c.args.self.now.shown.clusters (name i)) (pick / sum i))
    ∙ ap (λ (t : Target). forwarded c.args.self.now pick t) (sym c.in-Weighted.is)
