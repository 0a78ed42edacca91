use Rattle.std.proofs.Common.{◌≡◌, ◌+◌, ℕ, List, drop, get_or, sym, ◌∙◌, subst}
use Rattle.std.proofs.lemmas.List.{drop_all}
use Rattle.ev_types.specs.declared.events.Actor.TheVariants.{Worker}
use Rattle.ev_actors.specs.Journals.{JournalParts}
use Rattle.ev_commits.specs.Commits.{seat_of}
use Rattle.ev_commits.specs.Seen.{seen_by}
use Rattle.ev_operations.specs.declared.due.Due.{Due}
use Rattle.ev_operations.specs.declared.due.Due.TheVariants.{Line as by_line}
use Rattle.ev_run.specs.Acting.{HasEnded, HasGoneThrough, IsWorkingOn}
use Rattle.ev_run.proofs.BeginLemmas.{next_work, working_ended, works_on}
use Rattle.ev_run.specs.Playing.{IsPassAt}
use Rattle.ev_run.proofs.PlaceLemmas.{begins_with, ok_then}
use Rattle.ev_run.proofs.workers.work_all.Goals as goal

pub work-back-requires-clause-next : goal.work-back-requires-clause-next
work-back-requires-clause-next g c κs within =
    let parts : JournalParts = seen_by g.J.Journaled.shows c.args.gate.now c.loop-due.pass in
    next_work c.args.script.now c.loop-due.worker (get_or c.args.dues.now c.loop-due.due-index (by_line 0)) (drop (c.loop-due.due-index + 1) c.args.dues.now) parts
    (subst (λ (ds : List Due). IsWorkingOn c.args.script.now c.loop-due.worker ds parts)
    (begins_with c.args.dues.now c.loop-due.due-index (by_line 0) c.loop-due-test.true) c.loop-due.invariant.working)

pub loop-due-preserved : goal.loop-due-preserved
loop-due-preserved g c =
    let before : JournalParts = seen_by g.J.Journaled.shows c.args.gate.now c.loop-due.pass in
    let after : JournalParts = seen_by g.J.Journaled.shows c.args.gate.now c.work-back.result.0 in
    let due : Due = get_or c.args.dues.now c.loop-due.due-index (by_line 0) in
    let number : c.work-back.new.worker.number ≡ c.loop-due.worker.number =
    ok_then c.work-back.result.1 (c.work-back.new.worker.number ≡ c.loop-due.worker.number) (sym c.is_err.ensures.value ∙ c.if-is_err.false) c.work-back.ensures.number in
    record {
      number = number ∙ c.loop-due.invariant.number;
      at_gate = subst (λ (n : ℕ). IsPassAt g.J.Journaled.shows c.args.gate.now (seat_of (Worker n)) c.work-back.result.0) c.loop-due.invariant.number c.work-back.ensures.pass;
      working =
          works_on c.args.script.now due (drop (c.loop-due.due-index + 1) c.args.dues.now) before after c.loop-due.worker c.work-back.new.worker number
          (subst (λ (ds : List Due). IsWorkingOn c.args.script.now c.loop-due.worker ds before)
          (begins_with c.args.dues.now c.loop-due.due-index (by_line 0) c.loop-due-test.true) c.loop-due.invariant.working)
          (ok_then c.work-back.result.1 (HasGoneThrough c.args.script.now due before after c.loop-due.worker c.work-back.new.worker) (sym c.is_err.ensures.value ∙ c.if-is_err.false)
          c.work-back.ensures.through);
    }

pub returns-clause-ended : goal.returns-clause-ended
returns-clause-ended g c = λ came.
    let parts : JournalParts = seen_by g.J.Journaled.shows c.args.gate.now c.loop-due.pass in
    subst (λ (n : ℕ). HasEnded c.args.script.now (Worker n) parts) c.loop-due.invariant.number
    (working_ended c.args.script.now c.loop-due.worker parts
    (subst (λ (ds : List Due). IsWorkingOn c.args.script.now c.loop-due.worker ds parts) (drop_all c.loop-due.due-index c.args.dues.now c.loop-due-test.false)
    c.loop-due.invariant.working))
