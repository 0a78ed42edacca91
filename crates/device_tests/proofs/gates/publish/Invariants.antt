use Rattle.ev_gate.specs.Words.{gate_id, IsPassOf}
use Rattle.device_tests.proofs.gates.publish.Given as goal

abbrev pub invariant-loop-time : goal.invariant-loop-time
invariant-loop-time g l = IsPassOf (gate_id l.gate) l.seat l.pass
