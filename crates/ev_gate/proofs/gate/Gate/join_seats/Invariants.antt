use Rattle.std.proofs.Common.{vec_len}
use Rattle.ev_gate.specs.Words.{gate_id}
use Rattle.ev_gate.specs.Inner.{IsGathering}
use Rattle.ev_gate.proofs.gate.Gate.join_seats.Given as goal

abbrev pub invariant-loop-passes : goal.invariant-loop-passes
invariant-loop-passes g l = IsGathering (gate_id l.self) l.fn.passes.items l.passes.items l.leader

abbrev pub decreases-loop-passes : goal.decreases-loop-passes
decreases-loop-passes g l = vec_len l.passes
