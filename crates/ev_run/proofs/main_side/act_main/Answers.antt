use Rattle.std.proofs.Common.{List, sym, subst}
use Rattle.ev_model.specs.Operations.{operations_of}
use Rattle.ev_commits.specs.Seen.{seen_by}
use Rattle.ev_operations.specs.Dues.{AreDue}
use Rattle.ev_operations.specs.declared.due.Due.{Due}
use Rattle.ev_run.proofs.BeginLemmas.{begins_acting}
use Rattle.ev_run.proofs.main_side.act_main.Goals as goal

pub act_all-requires-clause-acting : goal.act_all-requires-clause-acting
act_all-requires-clause-acting g c κs within =
    begins_acting c.args.script.now c.args.actor c.as_slice.result.now (seen_by g.J.Journaled.shows c.args.gate.now c.args.pass) c.worker_count.ensures.kept
    c.requires.pass.seen
    (subst (λ (ds : List Due). AreDue c.args.script.now c.args.actor ds (operations_of c.args.script.now c.args.actor)) (sym c.as_slice.ensures.elements)
    c.in-Ok.ensures)
