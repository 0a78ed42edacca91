use Rattle.std.proofs.Common.{◌≡◌, ◌∙◌, ap, map}
use Rattle.ev_types.specs.declared.rows.KeptVersion.{KeptVersion}
use Rattle.ev_model.specs.World.{World}
use Rattle.ev_model.specs.Versions.{versions_of}
use Rattle.ev_subscription.specs.Subscriptions.{HasVersions}
use Rattle.ev_subscription.proofs.HeldLemmas.{if_ok_more}
use Rattle.ev_subscription.proofs.subscription.Subscription.versions.Goals as goal

pub returns-clause-stands : goal.returns-clause-stands
returns-clause-stands c =
    if_ok_more _ (λ list. (world : World) → HasVersions c.args.self.now world → list ≡ versions_of c.args.kind world.versions) c.list.result
    (λ list is world stands. is ∙ (λ i. versions_of c.args.kind (c.self.view_is i).versions) ∙ ap (map (λ (kept : KeptVersion). (kept.name, kept.version))) (stands.versions c.args.kind)) c.list.ensures
