use Rattle.std.proofs.Common.{drop}
use Rattle.ev_commits.specs.Commits.{seat_of}
use Rattle.ev_commits.specs.Seen.{seen_by}
use Rattle.ev_run.specs.Acting.{IsActingOn}
use Rattle.ev_run.specs.Playing.{IsPassAt}
use Rattle.ev_run.proofs.main_side.act_all.Given as goal

abbrev pub invariant-loop-due : goal.invariant-loop-due
invariant-loop-due g l = record {
  at_gate : IsPassAt g.J.Journaled.shows l.gate (seat_of l.actor) l.pass;
  acting : IsActingOn l.script l.actor (drop l.due-index l.dues) (seen_by g.J.Journaled.shows l.gate l.pass);
}
