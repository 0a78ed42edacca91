use Rattle.std.proofs.Common.{◌≡◌, drop}
use Rattle.ev_types.specs.declared.events.Actor.TheVariants.{Worker}
use Rattle.ev_commits.specs.Commits.{seat_of}
use Rattle.ev_commits.specs.Seen.{seen_by}
use Rattle.ev_run.specs.Acting.{IsWorkingOn}
use Rattle.ev_run.specs.Playing.{IsPassAt}
use Rattle.ev_run.proofs.workers.work_all.Given as goal

abbrev pub invariant-loop-due : goal.invariant-loop-due
invariant-loop-due g l = record {
  number : l.worker.number ≡ l.fn.worker.number;
  at_gate : IsPassAt g.J.Journaled.shows l.gate (seat_of (Worker l.fn.worker.number)) l.pass;
  working : IsWorkingOn l.script l.worker (drop l.due-index l.dues) (seen_by g.J.Journaled.shows l.gate l.pass);
}
