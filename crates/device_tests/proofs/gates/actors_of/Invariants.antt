use Rattle.std.proofs.Common.{◌+◌, ◌≤◌, length, vec_len, vec_capacity}
use Rattle.ev_gate.specs.Words.{gate_id}
use Rattle.device_tests.proofs.Returning.{AreLeaving}
use Rattle.device_tests.proofs.gates.actors_of.Given as goal

abbrev pub invariant-loop-actors : goal.invariant-loop-actors
invariant-loop-actors l = AreLeaving (gate_id l.gate) (length l.fn.passes.items) l.actors.items (λ a. a.pass) l.passes.items × (length l.actors.items + length l.passes.items ≤ vec_capacity l.actors)

abbrev pub decreases-loop-actors : goal.decreases-loop-actors
decreases-loop-actors l = vec_len l.passes
