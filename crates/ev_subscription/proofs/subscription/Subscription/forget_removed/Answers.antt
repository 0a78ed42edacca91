use Rattle.std.proofs.Common.{◌∙◌, ap, sym, subst, List, filter, take}
use Rattle.ev_types.specs.Items.{ResponseParts}
use Rattle.ev_types.specs.declared.rows.KeptVersion.{KeptVersion}
use Rattle.ev_subscription.specs.Subscriptions.{HasVersions}
use Rattle.ev_subscription.proofs.KindLemmas.{is_left, left_first, left_more, left_end}
use Rattle.ev_subscription.proofs.subscription.Subscription.forget_removed.Goals as goal

pub loop-name-init : goal.loop-name-init
loop-name-init c = λ world stands.
    subst (λ (vs : List KeptVersion). HasVersions c.args.self.now (record world { versions = vs })) (sym (left_first c.args.kind c.args.mentions.now world.versions)) stands

pub loop-name-preserved : goal.loop-name-preserved
loop-name-preserved c = λ world stands.
    subst (λ (vs : List KeptVersion). HasVersions c.forget_where_removed.new.self (record world { versions = vs }))
    (left_more c.args.kind c.args.mentions.now c.as_slice-name-items.result.now c.loop-name.name-index c.name-item.result c.as_str.result.now world.versions
    c.loop-name-test.true c.name-item.is c.as_str.ensures.bytes)
    (c.forget_where_removed.ensures
    (record world { versions = filter (is_left c.args.kind c.args.mentions.now (take c.loop-name.name-index c.as_slice-name-items.result.now)) world.versions })
    (c.loop-name.invariant world stands))

pub returns : goal.returns
returns c = λ world stands.
    subst (λ (vs : List KeptVersion). HasVersions c.loop-name.self (record world { versions = vs }))
    (left_end c.args.kind c.args.mentions.now c.as_slice-name-items.result.now c.loop-name.name-index world.versions c.loop-name-test.false
    (c.as_slice-name-items.ensures.elements ∙ ap (λ (response : ResponseParts). response.removed) (c.behind-mentions.view_is ∙ c.response.ensures)))
    (c.loop-name.invariant world stands)
