use Rattle.std.proofs.Common.{◌≤◌, vec_capacity}
use Rattle.ev_gate.specs.Words.{gate_id, first_of}
use Rattle.ev_gate.specs.Inner.{IsSeating}
use Rattle.ev_gate.proofs.gate.Gate.make_passes.Given as goal

-- the leader has made as many seats as the counter says, and each but its own has a pass
abbrev pub invariant-loop-made : goal.invariant-loop-made
invariant-loop-made g l = IsSeating (gate_id l.self) l._made (g.V.Stands.opening (first_of l.self)) (g.V.Stands.commits (first_of l.self)) l.version l.leader l.passes.items × (l.seats ≤ vec_capacity l.passes)
