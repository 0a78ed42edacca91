use Rattle.std.proofs.Common.{◌≡◌, take}
use Rattle.ev_model.specs.declared.pictures.Shown.{Shown}
use Rattle.ev_retirement.specs.Asking.{LetsGo}
use Rattle.ev_retirement.specs.Closing.{AreFound, closed_all}
use Rattle.ev_retirement.proofs.letting_go.close_each.Given as goal

abbrev pub invariant-loop-number : goal.invariant-loop-number
invariant-loop-number l = record {
  closed : l.ledger ≡ closed_all l.worker (take l.number-index l.numbers) l.initial.ledger;
  goes : LetsGo l.drain l.initial.asking l.asking l.initial.ledger l.ledger;
  found : (shown : Shown) → AreFound l.initial.closing l.drain shown l.initial.ledger → AreFound l.closing l.drain shown l.ledger;
}
