use Rattle.std.proofs.Common.{◌≡◌, drop}
use Rattle.ev_model.specs.World.{World}
use Rattle.ev_model.specs.Rows.{add_items}
use Rattle.ev_subscription.specs.Subscriptions.{HasVersions}
use Rattle.ev_subscription.proofs.subscription.Subscription.keep_all.Given as goal

abbrev pub invariant-loop-place : goal.invariant-loop-place
invariant-loop-place l = (world : World) → HasVersions l.initial.self world
    → (w : World) × HasVersions l.self w × (add_items l.kind (drop l.place l.verdicts) (drop l.place l.items) w ≡ add_items l.kind l.verdicts l.items world)
