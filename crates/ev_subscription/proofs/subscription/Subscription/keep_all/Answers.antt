use Rattle.std.proofs.Common.{◌∙◌, ◌<◌, ◌≤◌, length, subst, sym, arith, refl}
use Rattle.ev_model.specs.Rows.{add_item}
use Rattle.ev_subscription.specs.Subscriptions.{HasVersions}
use Rattle.ev_subscription.proofs.ResponseLemmas.{item_more, items_done}
use Rattle.ev_subscription.proofs.subscription.Subscription.keep_all.Goals as goal

pub loop-place-init : goal.loop-place-init
loop-place-init c = λ world stands. (world, stands, refl)

pub loop-place-preserved : goal.loop-place-preserved
loop-place-preserved c =
    let place = c.loop-place.place in
    let item = c.index-items-place.result in
    let within : place < length c.args.verdicts.now = omega (arith, c.requires, c.loop-place-test.true) in
    λ world stands.
    let w = c.loop-place.invariant world stands in (
      add_item c.args.kind c.index-verdicts-place.result item w.0,
      c.in_ok-keep.ensures w.0 w.1,
      item_more c.args.kind c.args.verdicts.now c.args.items.now place c.index-verdicts-place.result item w.0
          within c.loop-place-test.true c.index-verdicts-place.is c.index-items-place.is ∙ w.2,
    )

pub returns : goal.returns
returns c = λ world stands.
    let place = c.loop-place.place in
    let past : length c.args.verdicts.now ≤ place = omega (arith, c.requires, c.loop-place-test.false) in
    let w = c.loop-place.invariant world stands in
    subst (HasVersions c.loop-place.self) (sym (items_done c.args.kind c.args.verdicts.now c.args.items.now place w.0 past c.loop-place-test.false) ∙ w.2) w.1
