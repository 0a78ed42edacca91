use Rattle.ev_retirement.proofs.FoundLemmas.{place_left}
use Rattle.ev_retirement.proofs.closing.Closing.leave.Goals as goal

pub returns : goal.returns
returns c w connection = place_left c.args.worker c.args.conn w connection _ _ (c.remove.ensures.updates.0 (w, connection))
