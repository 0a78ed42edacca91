use Rattle.std.proofs.Common.{◌+◌, ◌≤◌, length, vec_len, vec_capacity}
use Rattle.ev_gate.specs.Words.{gate_id}
use Rattle.device_tests.proofs.Returning.{AreReturning}
use Rattle.device_tests.proofs.gates.passes_of.Given as goal

abbrev pub invariant-loop-actors : goal.invariant-loop-actors
invariant-loop-actors l = AreReturning (gate_id l.gate) (length l.fn.actors.items) l.actors.items (λ a. a.pass) l.passes.items × (length l.passes.items + length l.actors.items ≤ vec_capacity l.passes) × (length l.told.items + length l.actors.items ≤ vec_capacity l.told)

abbrev pub decreases-loop-actors : goal.decreases-loop-actors
decreases-loop-actors l = vec_len l.actors
