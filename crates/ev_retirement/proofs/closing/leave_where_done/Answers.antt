use Rattle.std.proofs.Common.{sym, ◌∙◌}
use Rattle.ev_retirement.proofs.FoundLemmas.{found_done}
use Rattle.ev_retirement.proofs.SettleLemmas.{not_due}
use Rattle.ev_retirement.proofs.closing.leave_where_done.Goals as goal

pub returns-then-not-is_due_at : goal.returns-then-not-is_due_at
returns-then-not-is_due_at c =
    found_done c.args.worker c.args.conn c.args.closing.now c.leave.new.self c.args.drain.now c.args.last.now.shown c.leave.ensures c.args.ledger.now
    (not_due c.args.worker c.args.conn c.args.drain.now c.args.last.now.shown c.args.ledger.now c.is_due_at.ensures.apart (sym c.is_due_at.ensures.due ∙ c.if-not-is_due_at.true))
