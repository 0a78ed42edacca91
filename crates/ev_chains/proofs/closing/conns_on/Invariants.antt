use Rattle.std.proofs.Common.{take}
use Rattle.ev_chains.specs.Closing.{AreConnectionsOn}
use Rattle.ev_chains.proofs.closing.conns_on.Given as goal

abbrev pub invariant-loop-number : goal.invariant-loop-number
invariant-loop-number l = AreConnectionsOn (take l.number-index l.draining) l.ledger l.conns
