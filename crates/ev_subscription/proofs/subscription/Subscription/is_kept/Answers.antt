use Rattle.std.proofs.Common.{◌∙◌}
use Rattle.ev_model.specs.Versions.{is_kept}
use Rattle.ev_subscription.proofs.KindLemmas.{kept_is}
use Rattle.ev_subscription.proofs.subscription.Subscription.is_kept.Goals as goal

pub returns-clause-stands : goal.returns-clause-stands
returns-clause-stands c = λ world stands.
    c.is_kept.ensures
    ∙ (λ i. is_kept (c.self.view_is i).versions c.args.kind c.args.name.now c.args.version.now)
    ∙ kept_is c.args.self.now world c.args.kind c.args.name.now c.args.version.now stands
