use Rattle.std.proofs.Common.{take}
use Rattle.ev_model.specs.World.{World}
use Rattle.ev_subscription.specs.Subscriptions.{HasVersions, without_ended}
use Rattle.ev_subscription.proofs.subscription.Subscription.forget_ended.Given as goal

abbrev pub invariant-loop-change : goal.invariant-loop-change
invariant-loop-change l = (world : World) → HasVersions l.fn.self world
    → HasVersions l.self (record world { versions = without_ended (take l.change-index l.changes) world.versions })
