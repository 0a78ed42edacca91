use Rattle.ev_gate.specs.Words.{gate_id}
use Rattle.device_tests.proofs.Returning.{AreReady}
use Rattle.device_tests.proofs.gates.play.Given as goal

abbrev pub invariant-loop-act : goal.invariant-loop-act
invariant-loop-act g l = AreReady (gate_id l.gate) l.actors (λ a. a.pass)
