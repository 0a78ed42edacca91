use Rattle.std.proofs.Common.{◌≡◌, take}
use Rattle.ev_retirement.specs.Asking.{LetsGo}
use Rattle.ev_retirement.specs.Closing.{AreFound, moved_each}
use Rattle.ev_retirement.proofs.letting_go.move_each.Given as goal

abbrev pub invariant-loop-number : goal.invariant-loop-number
invariant-loop-number l = record {
  moved : l.ledger ≡ moved_each l.worker (take l.number-index l.numbers) l.last.shown l.initial.ledger;
  goes : LetsGo l.drain l.initial.asking l.asking l.initial.ledger l.ledger;
  found : AreFound l.initial.closing l.drain l.last.shown l.initial.ledger → AreFound l.closing l.drain l.last.shown l.ledger;
}
