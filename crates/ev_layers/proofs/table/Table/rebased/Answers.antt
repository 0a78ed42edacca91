use Rattle.std.proofs.Common.{◌∙◌, ap}
use Rattle.std.specs.Map.{lookup}
use Rattle.std.specs.Option.{option_or}
use Rattle.indexmap.specs.IndexMap.{get}
use Rattle.ev_layers.specs.Layers.{entry_in, over_base}
use Rattle.ev_layers.proofs.table.Table.rebased.Goals as goal

pub returns : goal.returns
returns g c key =
    let eq = g.K.PartialEq.eq in
    (λ i. over_base (option_or (lookup (eq key) (c.with_hasher.ensures.empty i)) (entry_in (eq key) (c.new-2.ensures.empty i))) (get eq (c.in_ok-new.ensures.ok i) key))
    ∙ c.in_ok-put_over.ensures key
    ∙ ap (over_base (get eq c.args.top.now key)) (c.in_ok-base.ensures key ∙ ap (λ m. get eq m key) c.deref.ensures)
