use Rattle.std.proofs.Common.{refl, subst}
use Rattle.ev_commits.specs.Commits.{commits_of}
use Rattle.ev_gate.specs.Words.{first_of, seats_of}
use Rattle.ev_run.specs.Playing.{EachAt, IsOverAt}
use Rattle.ev_run.proofs.CloseLemmas.{closes}
use Rattle.ev_run.proofs.threaded.close_gate.Goals as goal

pub returns-then-ended : goal.returns-then-ended
returns-then-ended g c =
    closes g.J.Journaled.shows c.args.script.now c.args.gate c.args.passes.items (g.J.Journaled.shows c.close-journaled.result.journaled)
    (commits_of (g.J.Journaled.shows (first_of c.args.gate).journaled).journal) (seats_of c.args.gate)
    c.worker_count.ensures.kept c.runs_have_the_laws.ensures c.requires.gate c.journal.ensures.run c.close-journaled.ensures.opening refl c.close-journaled.ensures.history
    c.requires.seats.0 c.requires.seats.1
    (subst (λ e. EachAt (IsOverAt g.J.Journaled.shows c.args.script.now c.args.gate e) c.args.passes.items) c.if-ended.true c.requires.over)
