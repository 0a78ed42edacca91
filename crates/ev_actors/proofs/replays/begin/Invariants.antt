use Rattle.ev_model.specs.Dead.{last_picture}
use Rattle.ev_actors.specs.Journals.{world_now}
use Rattle.ev_actors.specs.Taken.{HaveBegun}
use Rattle.ev_actors.proofs.replays.begin.Given as goal

abbrev pub invariant-loop-number : goal.invariant-loop-number
invariant-loop-number g l = HaveBegun l.number (last_picture (world_now (g.R.Journaled.shows l.journaled))) l.workers.items
