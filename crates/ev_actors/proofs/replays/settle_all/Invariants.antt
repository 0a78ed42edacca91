use Rattle.std.proofs.Common.{◌≡◌}
use Rattle.ev_actors.specs.Taken.{IsSettling}
use Rattle.ev_actors.proofs.replays.settle_all.Given as goal

abbrev pub invariant-loop-number : goal.invariant-loop-number
invariant-loop-number g l = record {
  settling : IsSettling l.at (g.R.Journaled.shows l.fn.journaled) (g.R.Journaled.shows l.journaled) l.fn.workers l.workers l.number;
  deferred : g.R.Journaled.deferred l.journaled ≡ g.R.Journaled.deferred l.fn.journaled;
}
