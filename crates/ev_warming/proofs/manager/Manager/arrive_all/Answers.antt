use Rattle.std.proofs.Common.{◌∙◌, ap, subst}
use Rattle.ev_types.specs.Items.{ResponseParts}
use Rattle.ev_model.specs.Rows.{with_removals, add_items}
use Rattle.ev_indexes.specs.Worlds.{HasRows}
use Rattle.ev_warming.proofs.AbsenceLemmas.{removals-told}
use Rattle.ev_warming.proofs.manager.Manager.arrive_all.Goals as goal

pub returns-clause-stands : goal.returns-clause-stands
returns-clause-stands g c =
    let told = c.in_ok-tell_removals.ensures in
    let kind = c.args.kind in
    let response = c.args.mentions.now in
    λ world stands.
    subst (HasRows c.take_values.new.self.state)
    (λ i. add_items kind c.args.verdicts.now ((c.as_slice.ensures.elements ∙ ap (λ (r : ResponseParts). r.items) (c.behind-mentions.view_is ∙ c.response.ensures)) i) (with_removals kind response world))
    (c.in_ok-take_values.ensures.stands (with_removals kind response world)
    (removals-told c.tell_removals.new.self.state world kind response c.requires.by_name (told.stands world stands)))
