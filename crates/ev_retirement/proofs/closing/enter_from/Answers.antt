use Rattle.std.proofs.Common.{ap, ◌∙◌}
use Rattle.std.proofs.lemmas.Result.{on_ok_weaker}
use Rattle.ev_ledger.specs.Members.{has_place}
use Rattle.ev_retirement.proofs.closing.enter_from.Goals as goal

pub returns-clause-entered : goal.returns-clause-entered
returns-clause-entered c =
    on_ok_weaker c.enter_each.result
    (λ entered worker connection h. entered worker connection (ap (has_place worker connection) c.as_slice.ensures.value ∙ c.in-Ok.ensures.places worker connection ∙ h))
    c.enter_each.ensures.entered
