use Rattle.std.proofs.Common.{length}
use Rattle.ev_indexes.specs.Needs.{needs_of}
use Rattle.ev_indexes.specs.Watched.{WatchesKept}
use Rattle.ev_warming.specs.Forgetting.{ForgetsNeeds}
use Rattle.ev_warming.proofs.forgetting.forget_needs.Given as goal

abbrev pub invariant-loop-need : goal.invariant-loop-need
invariant-loop-need l = (final : WatchesKept) → ForgetsNeeds l.watches final l.needs → ForgetsNeeds l.initial.watches final (needs_of l.content)

abbrev pub decreases-loop-need : goal.decreases-loop-need
decreases-loop-need l = length l.needs
