use Rattle.std.proofs.Common.{ap, ◌∙◌}
use Rattle.std.proofs.lemmas.Result.{on_ok_weaker}
use Rattle.ev_model.specs.Picture.{has_number}
use Rattle.ev_retirement.proofs.FoundLemmas.{finds_after}
use Rattle.ev_retirement.proofs.TouchLemmas.{touched_found}
use Rattle.ev_retirement.proofs.closing.enter_touched.Goals as goal

pub returns-clause-found : goal.returns-clause-found
returns-clause-found c =
    on_ok_weaker c.enter_from_each.result
    (λ from drain found.
    touched_found c.args.closing.now c.enter_from_each.new.closing drain c.args.last.now.shown c.args.next.now.shown c.in_ok-gone.gone.items c.in_ok-begun.begun.items c.args.ledger.now
    (finds_after c.args.closing.now c.enter_on_each.new.closing c.enter_from_each.new.closing c.enter_on_each.ensures.more c.enter_from_each.ensures.more)
    c.in_ok-gone.ensures.gone c.in_ok-begun.ensures
    (λ n there w k h. c.enter_from_each.ensures.more.stays w k (c.in_ok-enter_on_each.ensures.entered n (ap (has_number n) c.as_slice.ensures.value ∙ there) w k h))
    (λ n there w k h. from n (ap (has_number n) c.as_slice-2.ensures.value ∙ there) w k h) found)
    c.enter_from_each.ensures.entered
