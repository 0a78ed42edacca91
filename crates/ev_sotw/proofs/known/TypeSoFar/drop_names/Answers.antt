use Rattle.std.proofs.Common.{◌∙◌, ap}
use Rattle.ev_sotw.specs.Follows.{without_given_up_by}
use Rattle.ev_sotw.proofs.KnownLemmas.{drop_none, drop_next}
use Rattle.ev_sotw.proofs.known.TypeSoFar.drop_names.Goals as goal

pub loop-request-init : goal.loop-request-init
loop-request-init c = drop_none c.args.self.now

pub loop-request-preserved : goal.loop-request-preserved
loop-request-preserved c =
    c.drop_given_up.ensures ∙ ap (without_given_up_by c.args.kind c.request-item.result) c.loop-request.invariant
    ∙ drop_next c.args.kind c.args.requests.now c.args.self.now c.loop-request.request-index c.request-item.result c.loop-request-test.true c.request-item.is
