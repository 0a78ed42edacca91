use Rattle.std.proofs.Common.{◌≡◌, ◌++◌, take}
use Rattle.std.specs.List.{flat_map}
use Rattle.ev_subscription.specs.Subscriptions.{InWorlds}
use Rattle.ev_subscription.specs.Asked.{whole_of}
use Rattle.ev_subscription.proofs.subscription.Subscription.push_wholes.Given as goal

abbrev pub invariant-loop-one : goal.invariant-loop-one
invariant-loop-one l = InWorlds l.self (λ world. l.requests ≡ l.initial.requests ++ flat_map (whole_of world.versions) (take l.one-index l.watched))
