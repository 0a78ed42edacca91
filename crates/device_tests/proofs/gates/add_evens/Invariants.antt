use Rattle.ev_gate.specs.Words.{gate_id, IsPassOf}
use Rattle.device_tests.proofs.gates.add_evens.Given as goal

abbrev pub invariant-loop-number : goal.invariant-loop-number
invariant-loop-number g l = IsPassOf (gate_id l.gate) l.seat l.pass
