use Rattle.std.proofs.Common.{◌∙◌}
use Rattle.ev_model.specs.Versions.{without_version}
use Rattle.ev_subscription.proofs.KindLemmas.{stands_without}
use Rattle.ev_subscription.proofs.subscription.Subscription.forget.Goals as goal

pub returns-clause-held : goal.returns-clause-held
returns-clause-held c =
    (λ i. record (c.self.view_is i) { versions = c.forget.ensures i })
    ∙ (λ i. record c.args.self.now { versions = without_version c.args.kind c.args.name.now (c.self.view_is i).versions })

pub returns-clause-stands : goal.returns-clause-stands
returns-clause-stands c = stands_without c.args.self.now _ c.args.kind c.args.name.now (returns-clause-held c)
