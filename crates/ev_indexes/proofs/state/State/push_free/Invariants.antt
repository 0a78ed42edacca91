use Rattle.std.proofs.Common.{◌≡◌, ◌++◌, length}
use Rattle.ev_indexes.specs.Moved.{free_names, free_needs}
use Rattle.ev_model.specs.Watching.{names_awaited}
use Rattle.ev_indexes.proofs.state.State.push_free.Given as goal

abbrev pub invariant-loop-need : goal.invariant-loop-need
invariant-loop-need l =
    l.names.items ++ free_names l.kind l.made l.self.table.rows (names_awaited l.kind l.needs)
    ≡ l.initial.names.items ++ free_needs l.kind l.made l.self.table.rows l.content

abbrev pub decreases-loop-need : goal.decreases-loop-need
decreases-loop-need l = length l.needs
