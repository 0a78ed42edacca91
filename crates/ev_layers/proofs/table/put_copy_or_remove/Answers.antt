use Rattle.std.proofs.Common.{◌∙◌, cond}
use Rattle.indexmap.specs.IndexMap.{get}
use Rattle.ev_layers.proofs.table.put_copy_or_remove.Goals as goal

pub returns : goal.returns
returns g c q =
    let eq = g.K.PartialEq.eq in
    c.in_ok-put_or_remove.ensures q ∙ (λ i. cond (eq (c.in_ok-copy.ensures.equal i) q) (c.in_ok-copy-2.ensures.equal i) (get eq c.args.map.now q))
