use Rattle.std.proofs.Common.{◌∙◌, ◌++◌, append-nil, ap, sym}
use Rattle.std.specs.List.{flat_map}
use Rattle.std.proofs.lemmas.List.{take_all}
use Rattle.ev_subscription.specs.Asked.{whole_of}
use Rattle.ev_subscription.proofs.RequestLemmas.{asked-more}
use Rattle.ev_subscription.proofs.subscription.Subscription.push_wholes.Goals as goal

pub loop-one-init : goal.loop-one-init
loop-one-init c = λ world stands. sym (append-nil c.args.requests.now)

pub loop-one-preserved : goal.loop-one-preserved
loop-one-preserved c = λ world stands.
    c.in_ok-push_whole.ensures world stands
    ∙ (λ i. c.loop-one.invariant world stands i ++ whole_of world.versions c.one-item.result)
    ∙ asked-more (whole_of world.versions) c.args.requests.now c.args.watched.now c.loop-one.one-index c.one-item.result c.loop-one-test.true c.one-item.is

pub returns : goal.returns
returns c = λ world stands.
    c.loop-one.invariant world stands
    ∙ ap (λ ws. c.args.requests.now ++ flat_map (whole_of world.versions) ws) (take_all c.loop-one.one-index c.args.watched.now c.loop-one-test.false)
