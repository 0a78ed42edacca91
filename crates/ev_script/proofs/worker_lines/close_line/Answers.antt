-- A line is that of its worker and of its connection's number.
use Rattle.std.proofs.Common.{[], ◌∷◌, codes, ap, ◌∙◌, option_map, Option}
use Rattle.serde_json.specs.View.{view}
use Rattle.ev_types.specs.declared.events.Event.{Event}
use Rattle.ev_types.specs.declared.events.Event.TheVariants.{Close}
use Rattle.ev_script.specs.WorkerLines.{worker_line}
use Rattle.ev_script.proofs.FormLemmas.{passed}
use Rattle.ev_script.proofs.worker_lines.close_line.Goals as goal

pub returns : goal.returns
returns c =
    let tree = view c.args.tree.now in
    c.worker_line.ensures
    ∙ ap (λ (event : Option Event). worker_line c.args.at event tree)
    (c.close_event.ensures ∙ ap (option_map (λ conn. Close conn)) c.conn_in.ensures)
    ∙ passed (codes "worker" ∷ codes "conn" ∷ []) tree _ c.has_only.result c.has_only.ensures c.if-not-has_only.false
