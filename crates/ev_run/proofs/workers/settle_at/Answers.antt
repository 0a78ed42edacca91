use Rattle.std.proofs.Common.{◌≡◌, true, false, subst}
use Rattle.std.specs.Prelude.{IfOk}
use Rattle.ev_actors.specs.Journals.{JournalParts}
use Rattle.ev_commits.specs.Seen.{HasCommitted, IsLeftOut, LearnsAtRest, heard_by, seen_by}
use Rattle.ev_run.proofs.WorkerLemmas.{settle_goes}
use Rattle.ev_run.proofs.workers.settle_at.Goals as goal

pub returns-in-Ok-clause-through : goal.returns-in-Ok-clause-through
returns-in-Ok-clause-through g c =
    let before : JournalParts = seen_by g.J.Journaled.shows c.args.gate.now c.args.pass in
    let after : JournalParts = seen_by g.J.Journaled.shows c.args.gate.now c.settle-pass.result.0 in
    let heard : JournalParts = heard_by g.J.Journaled.shows c.args.gate.now c.args.pass in
    settle_goes c.args.script.now c.args.at c.args.step before after heard c.args.worker.now c.settle-pass.new.worker c.in-Ok.field-0
    (subst (λ r. IfOk r (λ made. made ≡ true → LearnsAtRest after c.args.worker.now)) c.in-Ok.is c.settle-pass.ensures.newer)
    (subst (λ r. IfOk r (λ made. made ≡ true → HasCommitted c.args.at c.args.step before after c.args.worker.now c.settle-pass.new.worker)) c.in-Ok.is
    c.settle-pass.ensures.settled)
    (subst (λ r. IfOk r (λ made. made ≡ false → IsLeftOut before after heard c.args.worker.now c.settle-pass.new.worker)) c.in-Ok.is c.settle-pass.ensures.left_out)
