use Rattle.std.proofs.Common.{ap, sym, subst, List, take}
use Rattle.std.proofs.lemmas.List.{take_all}
use Rattle.ev_types.specs.declared.rows.KeptVersion.{KeptVersion}
use Rattle.ev_subscription.specs.Subscriptions.{HasVersions, without_versions}
use Rattle.ev_subscription.proofs.UnwatchedLemmas.{unforgotten, forgotten_more}
use Rattle.ev_subscription.proofs.subscription.Subscription.forget_all.Goals as goal

pub loop-name-init : goal.loop-name-init
loop-name-init c = λ world stands.
    subst (λ (vs : List KeptVersion). HasVersions c.args.self.now (record world { versions = vs })) (sym (unforgotten c.args.kind world.versions)) stands

pub loop-name-preserved : goal.loop-name-preserved
loop-name-preserved c = λ world stands.
    subst (λ (vs : List KeptVersion). HasVersions c.forget.new.self (record world { versions = vs }))
    (forgotten_more c.args.kind c.args.names.now c.loop-name.name-index c.name-item.result c.as_str.result.now world.versions
    c.loop-name-test.true c.name-item.is c.as_str.ensures.bytes)
    (c.forget.ensures.stands (record world { versions = without_versions c.args.kind (take c.loop-name.name-index c.args.names.now) world.versions }) (c.loop-name.invariant world stands))

pub returns : goal.returns
returns c = λ world stands.
    subst (λ (vs : List KeptVersion). HasVersions c.loop-name.self (record world { versions = vs }))
    (ap (λ ns. without_versions c.args.kind ns world.versions) (take_all c.loop-name.name-index c.args.names.now c.loop-name-test.false))
    (c.loop-name.invariant world stands)
