use Rattle.std.proofs.Common.{◌∙◌, ◌++◌, append-nil, ap, sym}
use Rattle.std.specs.List.{flat_map}
use Rattle.std.proofs.lemmas.List.{take_all}
use Rattle.ev_subscription.specs.Asked.{change_request}
use Rattle.ev_subscription.proofs.RequestLemmas.{asked-more}
use Rattle.ev_subscription.proofs.requests.push_changes.Goals as goal

pub loop-change-init : goal.loop-change-init
loop-change-init c = sym (append-nil c.args.requests.now)

pub loop-change-preserved : goal.loop-change-preserved
loop-change-preserved c =
    c.in_ok-push_change.ensures
    ∙ (λ i. c.loop-change.invariant i ++ change_request c.change-item.result)
    ∙ asked-more change_request c.args.requests.now c.args.changes.now c.loop-change.change-index c.change-item.result c.loop-change-test.true c.change-item.is

pub returns : goal.returns
returns c =
    c.loop-change.invariant
    ∙ ap (λ cs. c.args.requests.now ++ flat_map change_request cs) (take_all c.loop-change.change-index c.args.changes.now c.loop-change-test.false)
