use Rattle.std.proofs.Common.{◌∙◌}
use Rattle.ev_model.specs.Versions.{is_bounded}
use Rattle.ev_subscription.proofs.KindLemmas.{bounded_is}
use Rattle.ev_subscription.proofs.subscription.Subscription.is_bounded.Goals as goal

pub returns-clause-stands : goal.returns-clause-stands
returns-clause-stands c = λ world stands.
    c.is_bounded.ensures
    ∙ (λ i. is_bounded (c.self.view_is i).versions c.args.kind c.args.name.now)
    ∙ bounded_is c.args.self.now world c.args.kind c.args.name.now stands
