use Rattle.std.proofs.Common.{◌≡◌, ◌++◌, length}
use Rattle.ev_model.specs.Watching.{names_awaited}
use Rattle.ev_indexes.specs.Needs.{needs_of}
use Rattle.ev_indexes.proofs.watched.push_needs.Given as goal

abbrev pub invariant-loop-need : goal.invariant-loop-need
invariant-loop-need l =
    l.names.items ++ names_awaited l.kind l.needs ≡ l.initial.names.items ++ names_awaited l.kind (needs_of l.content)

abbrev pub decreases-loop-need : goal.decreases-loop-need
decreases-loop-need l = length l.needs
