use Rattle.std.proofs.Common.{length}
use Rattle.ev_indexes.specs.Needs.{HaveNames, needs_of}
use Rattle.ev_indexes.specs.Watched.{WatchesKept}
use Rattle.ev_warming.specs.Arrivals.{WatchesNeeds}
use Rattle.ev_warming.proofs.changes.watch.Given as goal

abbrev pub invariant-loop-need : goal.invariant-loop-need
invariant-loop-need l = record {
  watched : (final : WatchesKept) → WatchesNeeds l.watches final l.number l.needs → WatchesNeeds l.initial.watches final l.number (needs_of l.content);
  named : HaveNames l.needs → HaveNames (needs_of l.content);
}

abbrev pub decreases-loop-need : goal.decreases-loop-need
decreases-loop-need l = length l.needs
