use Rattle.std.proofs.Common.{◌≡◌, ℕ, List, sym, ◌∙◌, subst}
use Rattle.ev_types.specs.declared.events.Actor.TheVariants.{Worker}
use Rattle.ev_model.specs.Operations.{operations_of}
use Rattle.ev_commits.specs.Seen.{seen_by}
use Rattle.ev_operations.specs.Dues.{AreDue}
use Rattle.ev_operations.specs.declared.due.Due.{Due}
use Rattle.ev_run.proofs.BeginLemmas.{begins_working}
use Rattle.ev_run.proofs.workers.act_worker.Goals as goal

pub work_all-requires-clause-working : goal.work_all-requires-clause-working
work_all-requires-clause-working g c κs within =
    let number : c.worker-number.result ≡ c.args.worker.now.number = c.worker-number.ensures ∙ c.batch.ensures.worker in
    begins_working c.args.script.now c.args.worker.now c.as_slice.result.now (seen_by g.J.Journaled.shows c.args.gate.now c.args.pass) c.worker_count.ensures.kept
    c.requires.pass.seen c.requires.within c.requires.begun
    (subst (λ (n : ℕ). AreDue c.args.script.now (Worker n) c.as_slice.result.now (operations_of c.args.script.now (Worker n))) number
    (subst (λ (ds : List Due). AreDue c.args.script.now (Worker c.worker-number.result) ds (operations_of c.args.script.now (Worker c.worker-number.result)))
    (sym c.as_slice.ensures.elements) c.in-Ok.ensures))
