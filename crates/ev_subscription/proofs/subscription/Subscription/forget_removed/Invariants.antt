use Rattle.std.proofs.Common.{filter, take}
use Rattle.ev_model.specs.World.{World}
use Rattle.ev_subscription.specs.Subscriptions.{HasVersions}
use Rattle.ev_subscription.proofs.KindLemmas.{is_left}
use Rattle.ev_subscription.proofs.subscription.Subscription.forget_removed.Given as goal

abbrev pub invariant-loop-name : goal.invariant-loop-name
invariant-loop-name l = (world : World) → HasVersions l.fn.self world
    → HasVersions l.self (record world { versions = filter (is_left l.kind l.mentions (take l.name-index l.name-items)) world.versions })
