use Rattle.std.proofs.Common.{◌≡◌, take}
use Rattle.ev_chains.specs.Closing.{closed_all}
use Rattle.ev_chains.proofs.closing.close_all.Given as goal

abbrev pub invariant-loop-conn : goal.invariant-loop-conn
invariant-loop-conn l = l.ledger ≡ closed_all (take l.conn-index l.conns) l.initial.ledger
