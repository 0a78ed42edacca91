use Rattle.std.proofs.Common.{◌∙◌, ◌∷◌, ◌++◌, drop, ◌+◌, ap}
use Rattle.ev_layers.specs.Layers.{entry_in}
use Rattle.ev_layers.proofs.Layered.{layers_more, next_at}
use Rattle.ev_layers.proofs.table.joined.Goals as goal

pub loop-layer-preserved : goal.loop-layer-preserved
loop-layer-preserved g c key =
    let test = g.K.PartialEq.eq key in
    let at = c.loop-layer.layer-index in
    layers_more test c.loop-layer.top c.join_or_leave.new.top c.layer-item.result c.loop-layer.left c.join_or_leave.new.left (drop (at + 1) c.args.layers.now)
    (c.in_ok-join_or_leave.ensures key)
    ∙ ap (λ ls. entry_in test (c.loop-layer.top ∷ c.loop-layer.left ++ ls)) (next_at c.args.layers.now at c.layer-item.result c.loop-layer-test.true c.layer-item.is)
    ∙ c.loop-layer.invariant key
