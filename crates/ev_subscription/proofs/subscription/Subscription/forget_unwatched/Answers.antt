use Rattle.std.proofs.Common.{subst}
use Rattle.ev_subscription.specs.Subscriptions.{HasVersions, without_ended}
use Rattle.ev_subscription.proofs.UnwatchedLemmas.{unwatched_stand}
use Rattle.ev_subscription.proofs.subscription.Subscription.forget_unwatched.Goals as goal

pub returns : goal.returns
returns c = λ world stands ended.
    unwatched_stand c.forget_ended-2.new.self c.args.before.now c.args.behind.now world ended
    (subst (HasVersions c.forget_ended-2.new.self)
    (λ i. record world { versions = without_ended (c.as_slice-2.ensures.elements i) (without_ended (c.as_slice.ensures.elements i) world.versions) })
    (c.forget_ended-2.ensures (record world { versions = without_ended c.as_slice.result.now world.versions }) (c.forget_ended.ensures world stands)))
