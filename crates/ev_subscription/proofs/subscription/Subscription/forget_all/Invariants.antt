use Rattle.std.proofs.Common.{take}
use Rattle.ev_model.specs.World.{World}
use Rattle.ev_subscription.specs.Subscriptions.{HasVersions, without_versions}
use Rattle.ev_subscription.proofs.subscription.Subscription.forget_all.Given as goal

abbrev pub invariant-loop-name : goal.invariant-loop-name
invariant-loop-name l = (world : World) → HasVersions l.fn.self world
    → HasVersions l.self (record world { versions = without_versions l.kind (take l.name-index l.names) world.versions })
