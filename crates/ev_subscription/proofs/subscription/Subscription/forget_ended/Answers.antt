use Rattle.std.proofs.Common.{◌∙◌, ap, sym, subst, List, take}
use Rattle.std.proofs.lemmas.List.{take_all}
use Rattle.ev_types.specs.declared.rows.KeptVersion.{KeptVersion}
use Rattle.ev_subscription.specs.Subscriptions.{HasVersions, without_ended, without_versions}
use Rattle.ev_subscription.proofs.UnwatchedLemmas.{unended, ended_more}
use Rattle.ev_subscription.proofs.subscription.Subscription.forget_ended.Goals as goal

pub loop-change-init : goal.loop-change-init
loop-change-init c = λ world stands.
    subst (λ (vs : List KeptVersion). HasVersions c.args.self.now (record world { versions = vs })) (sym (unended world.versions)) stands

pub loop-change-preserved : goal.loop-change-preserved
loop-change-preserved c = λ world stands.
    let i = c.loop-change.change-index in
    let change = c.change-item.result in
    subst (λ (vs : List KeptVersion). HasVersions c.forget_all.new.self (record world { versions = vs }))
    (ap (λ ns. without_versions change.kind ns (without_ended (take i c.args.changes.now) world.versions)) c.as_slice.ensures.elements
    ∙ ended_more c.args.changes.now i change world.versions c.loop-change-test.true c.change-item.is)
    (c.forget_all.ensures (record world { versions = without_ended (take i c.args.changes.now) world.versions }) (c.loop-change.invariant world stands))

pub returns : goal.returns
returns c = λ world stands.
    subst (λ (vs : List KeptVersion). HasVersions c.loop-change.self (record world { versions = vs }))
    (ap (λ cs. without_ended cs world.versions) (take_all c.loop-change.change-index c.args.changes.now c.loop-change-test.false))
    (c.loop-change.invariant world stands)
