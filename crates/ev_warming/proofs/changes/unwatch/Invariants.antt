use Rattle.std.proofs.Common.{length}
use Rattle.ev_indexes.specs.Needs.{needs_of}
use Rattle.ev_indexes.specs.Watched.{WatchesKept}
use Rattle.ev_warming.specs.Arrivals.{UnwatchesNeeds}
use Rattle.ev_warming.proofs.changes.unwatch.Given as goal

abbrev pub invariant-loop-need : goal.invariant-loop-need
invariant-loop-need l =
    (final : WatchesKept) → UnwatchesNeeds l.watches final l.number l.needs → UnwatchesNeeds l.initial.watches final l.number (needs_of l.content)

abbrev pub decreases-loop-need : goal.decreases-loop-need
decreases-loop-need l = length l.needs
