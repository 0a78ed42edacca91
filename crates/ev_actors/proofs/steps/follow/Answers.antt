use Rattle.ev_actors.proofs.LineLemmas.{follows}
use Rattle.ev_actors.proofs.steps.follow.Goals as goal

pub returns-clause-followed : goal.returns-clause-followed
returns-clause-followed g c =
    follows c.args.line.now (g.R.Journaled.shows c.args.journaled.now) (g.R.Journaled.shows c.enter.new.journaled) (g.R.Journaled.shows c.enter-2.new.journaled)
    c.requires.main c.in_ok-enter.ensures.entered c.in_ok-enter-2.ensures.entered
