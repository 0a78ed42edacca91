use Rattle.std.proofs.Common.{◌∙◌, ap, subst}
use Rattle.ev_sotw.specs.Names.{IsInOrder}
use Rattle.ev_sotw.specs.Stated.{Known}
use Rattle.ev_sotw.specs.Follows.{with_asked_by}
use Rattle.ev_sotw.proofs.KnownLemmas.{put_none, put_next}
use Rattle.ev_sotw.proofs.known.TypeSoFar.put_names.Goals as goal

pub loop-request-init : goal.loop-request-init
loop-request-init c = put_none c.args.self.now (subst IsInOrder (ap (λ (k : Known). k.names) c.self.view_is) c.keeps_order.ensures)

pub loop-request-preserved : goal.loop-request-preserved
loop-request-preserved c =
    c.in_ok-put_asked.ensures ∙ ap (with_asked_by c.args.kind c.request-item.result) c.loop-request.invariant
    ∙ put_next c.args.kind c.args.requests.now c.args.self.now c.loop-request.request-index c.request-item.result c.loop-request-test.true c.request-item.is
