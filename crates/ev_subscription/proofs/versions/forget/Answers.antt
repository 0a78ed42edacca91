use Rattle.std.proofs.Common.{◌∙◌, ap}
use Rattle.ev_model.specs.Versions.{without_version}
use Rattle.ev_subscription.specs.Held.{versions_in}
use Rattle.ev_subscription.proofs.HeldLemmas.{held_less}
use Rattle.ev_subscription.proofs.versions.forget.Goals as goal

pub returns : goal.returns
returns c =
    ap versions_in c.remove.ensures.entries
    ∙ held_less c.new.result c.args.versions.now.entries c.len.ensures.ordered
    ∙ (λ i. without_version (c.new.ensures i).kind (c.new.ensures i).name (versions_in c.args.versions.now.entries))
