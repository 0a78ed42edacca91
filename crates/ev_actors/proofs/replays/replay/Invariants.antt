use Rattle.std.proofs.Common.{◌≡◌, ◌≤◌, [], take, drop}
use Rattle.ev_types.specs.Scripts.{items_of}
use Rattle.ev_actors.specs.Journals.{nothing_done, world_now}
use Rattle.ev_actors.specs.Taken.{GoesOn, IsUnderWay}
use Rattle.ev_actors.proofs.replays.replay.Given as goal

abbrev pub invariant-loop-line : goal.invariant-loop-line
invariant-loop-line g l = record {
  goes : GoesOn (nothing_done l.script) (g.R.Journaled.shows l.journaled);
  drawn : (world_now (g.R.Journaled.shows l.journaled)).made ≤ items_of (take l.line-index l.line-items);
  way : IsUnderWay l.script (g.R.Journaled.shows l.journaled) l.workers.items (drop l.line-index l.line-items);
  let_go : g.R.Journaled.deferred l.fn.journaled ≡ [] → g.R.Journaled.deferred l.journaled ≡ [];
}
