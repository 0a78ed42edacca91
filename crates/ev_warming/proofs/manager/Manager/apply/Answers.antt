use Rattle.std.proofs.Common.{◌∙◌, ap, subst}
use Rattle.ev_types.specs.Items.{ResponseParts}
use Rattle.ev_model.specs.Rows.{with_removals, add_items}
use Rattle.ev_indexes.specs.Worlds.{HasRows}
use Rattle.ev_warming.proofs.ResponseLemmas.{removals-stand}
use Rattle.ev_warming.proofs.manager.Manager.apply.Goals as goal

pub returns-clause-stands : goal.returns-clause-stands
returns-clause-stands g c =
    let removed = c.in_ok-remove_names.ensures in
    let kind = c.args.kind in
    let response = c.args.mentions.now in
    λ world stands.
    let w = with_removals kind response world in
    subst (HasRows c.take_items.new.self.state)
    (λ i. add_items kind c.args.verdicts.now ((c.as_slice.ensures.elements ∙ ap (λ (r : ResponseParts). r.items) (c.behind-mentions.view_is ∙ c.response.ensures)) i) w)
    (c.in_ok-take_items.ensures.stands w (removals-stand c.remove_names.new.self.state world kind response c.requires.rows (removed.stands world stands)))
