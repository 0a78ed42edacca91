use Rattle.ev_retirement.specs.Closing.{AreFound}
use Rattle.ev_retirement.proofs.closing.leave_done.Given as goal

abbrev pub invariant-loop-number : goal.invariant-loop-number
invariant-loop-number l = AreFound l.initial.closing l.drain l.last.shown l.ledger → AreFound l.closing l.drain l.last.shown l.ledger
