use Rattle.std.proofs.Common.{sym, subst}
use Rattle.ev_actors.specs.Journals.{answer_now}
use Rattle.ev_commits.specs.Commits.{seat_of}
use Rattle.ev_commits.specs.Seen.{CommitsOnce}
use Rattle.ev_commits.proofs.TurnLemmas.{enters_once}
use Rattle.ev_commits.proofs.acts.apply_in.Goals as goal

pub returns-clause-committed : goal.returns-clause-committed
returns-clause-committed g c =
    subst (CommitsOnce (seat_of c.args.actor) (g.J.Journaled.shows c.args.kept.now.journaled)) (sym c.take_deferred.ensures.same)
    (enters_once (g.J.Journaled.shows c.args.kept.now.journaled).workers record { actor = c.args.actor; at = c.args.at; step = c.args.step; event = c.args.event.now }
    (g.J.Journaled.shows c.args.kept.now.journaled) (g.J.Journaled.shows c.apply-applied.new.self) c.journal.ensures.run c.requires.main c.requires.allowed
    (record { answer = answer_now c.args.actor c.args.event.now (g.J.Journaled.shows c.args.kept.now.journaled); entered = c.in_ok-applied.ensures.entry; drawn = c.in_ok-applied.ensures.drawn }))
