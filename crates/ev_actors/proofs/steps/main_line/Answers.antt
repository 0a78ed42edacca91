use Rattle.std.proofs.Common.{sym, ◌∙◌}
use Rattle.std.proofs.lemmas.Result.{IfOk-weaker}
use Rattle.ev_actors.specs.Taken.{HasFollowed, HasGoneOut}
use Rattle.ev_actors.proofs.LineLemmas.{goes_alone, goes_followed}
use Rattle.ev_actors.proofs.steps.main_line.Goals as goal

pub returns-then-followed-clause-out : goal.returns-then-followed-clause-out
returns-then-followed-clause-out g c =
    IfOk-weaker c.follow.result (λ u. HasFollowed c.args.line.now (g.R.Journaled.shows c.enter.new.journaled) (g.R.Journaled.shows c.follow.new.journaled))
    (λ u. HasGoneOut c.args.auto c.args.line.now (g.R.Journaled.shows c.args.journaled.now) (g.R.Journaled.shows c.follow.new.journaled))
    (λ u followed.
    goes_followed (g.R.Journaled.shows c.args.journaled.now).workers c.args.auto c.args.line.now (g.R.Journaled.shows c.args.journaled.now)
    (g.R.Journaled.shows c.enter.new.journaled) c.requires.main c.requires.allowed c.in_ok-enter.ensures.entered (g.R.Journaled.shows c.follow.new.journaled)
    (sym c.is_followed-followed.ensures ∙ c.if-followed.true) followed)
    c.follow.ensures.followed

pub returns-else-followed-clause-out : goal.returns-else-followed-clause-out
returns-else-followed-clause-out g c =
    goes_alone (g.R.Journaled.shows c.args.journaled.now).workers c.args.auto c.args.line.now (g.R.Journaled.shows c.args.journaled.now)
    (g.R.Journaled.shows c.enter.new.journaled) c.requires.main c.requires.allowed c.in_ok-enter.ensures.entered
    (sym c.is_followed-followed.ensures ∙ c.if-followed.false)
