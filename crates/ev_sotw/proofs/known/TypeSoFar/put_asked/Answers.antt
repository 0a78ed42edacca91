use Rattle.std.proofs.Common.{sym, ap, subst}
use Rattle.ev_sotw.specs.Names.{IsInOrder}
use Rattle.ev_sotw.specs.Stated.{Known}
use Rattle.ev_sotw.proofs.KnownLemmas.{put_other}
use Rattle.ev_sotw.proofs.known.TypeSoFar.put_asked.Goals as goal

pub returns-else-is : goal.returns-else-is
returns-else-is c =
    put_other c.args.kind c.args.request.now c.args.self.now (sym c.if-is.ensures)
    (subst IsInOrder (ap (λ (k : Known). k.names) c.self.view_is) c.keeps_order.ensures)
