use Rattle.ev_model.specs.World.{World}
use Rattle.ev_model.specs.Rows.{add_item}
use Rattle.ev_subscription.specs.Subscriptions.{HasVersions}
use Rattle.ev_subscription.proofs.HeldLemmas.{on_ok}
use Rattle.ev_subscription.proofs.ResponseLemmas.{good_stands}
use Rattle.ev_subscription.proofs.subscription.Subscription.keep.Goals as goal

pub returns-in-New : goal.returns-in-New
returns-in-New c =
    on_ok _ ((world : World) → HasVersions c.args.self.now world → HasVersions c.keep_good.new.self (add_item c.args.kind c.args.verdict.now c.args.item.now world)) c.keep_good.result
    (λ stands world was. good_stands c.keep_good.new.self c.args.kind c.args.verdict.now c.args.item.now world c.in-New.is (stands world was)) c.keep_good.ensures
