use Rattle.std.proofs.Common.{take}
use Rattle.ev_state.specs.Moves.{ChangeNames}
use Rattle.ev_state.proofs.state.State.all_changed.Given as goal

abbrev pub invariant-loop-kind : goal.invariant-loop-kind
invariant-loop-kind l = ChangeNames l.self.managers (take l.kind-index l.kinds) l.made l.retired l.changes.items
