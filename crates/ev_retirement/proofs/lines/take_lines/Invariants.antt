use Rattle.std.proofs.Common.{List, drop}
use Rattle.ev_model.specs.World.{OpenMember}
use Rattle.ev_ledger.specs.Members.{HasOpened}
use Rattle.ev_retirement.specs.Asking.{LetsGo}
use Rattle.ev_retirement.specs.Closing.{AreFound}
use Rattle.ev_retirement.proofs.LineLemmas.{Leads}
use Rattle.ev_retirement.proofs.lines.take_lines.Given as goal

abbrev pub invariant-loop-line : goal.invariant-loop-line
invariant-loop-line l = record {
  leads : (opened : List OpenMember) → HasOpened l.initial.ledger opened → Leads l.worker l.ledger (drop l.line-index l.lines) l.lines opened;
  found : AreFound l.initial.closing l.drain l.last.shown l.initial.ledger → AreFound l.closing l.drain l.last.shown l.ledger;
  goes : LetsGo l.drain l.initial.asking l.asking l.initial.ledger l.ledger;
}
