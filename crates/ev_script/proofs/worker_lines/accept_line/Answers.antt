-- A line is that of its worker and of what its connection asks for.
use Rattle.std.proofs.Common.{ap, ◌∙◌, Option}
use Rattle.serde_json.specs.View.{view}
use Rattle.ev_types.specs.declared.events.Event.{Event}
use Rattle.ev_script.specs.WorkerLines.{worker_line, accept_members}
use Rattle.ev_script.proofs.FormLemmas.{passed}
use Rattle.ev_script.proofs.worker_lines.accept_line.Goals as goal

pub returns : goal.returns
returns c =
    let tree = view c.args.tree.now in
    c.worker_line.ensures
    ∙ ap (λ (event : Option Event). worker_line c.args.at event tree) c.in_ok-event.ensures
    ∙ passed (accept_members c.args.profile) tree _ c.has_accept_members.result c.has_accept_members.ensures c.if-not-has_accept_members.false
