use Rattle.std.proofs.Common.{sym}
use Rattle.ev_sotw.proofs.KnownLemmas.{drop_other}
use Rattle.ev_sotw.proofs.known.TypeSoFar.drop_given_up.Goals as goal

pub returns-else-is : goal.returns-else-is
returns-else-is c = drop_other c.args.kind c.args.request.now c.args.self.now (sym c.if-is.ensures)
