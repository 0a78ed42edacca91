use Rattle.std.proofs.Common.{◌∙◌, sym, if◌then◌else◌}
use Rattle.ev_types.specs.declared.rows.RowStatus.TheVariants.{Draining, Dropped}
use Rattle.ev_indexes.specs.Tables.{with_status}
use Rattle.ev_indexes.proofs.table.Generations.gone.Goals as goal
use Rattle.ev_indexes.proofs.table.Generations.gone.Goals.{then-dropped, else-dropped}

pub returns-clause-rows : goal.returns-clause-rows
returns-clause-rows c =
    c.set_status.ensures.rows
    ∙ elim c.if-dropped.branch [
      | then-dropped w ↦ (λ i. with_status c.args.number (w.status-is i) c.args.self.now.rows) ∙ (λ i. with_status c.args.number (if sym w.if-dropped.true i then Dropped else Draining) c.args.self.now.rows)
      | else-dropped w ↦ (λ i. with_status c.args.number (w.status-is i) c.args.self.now.rows) ∙ (λ i. with_status c.args.number (if sym w.if-dropped.false i then Dropped else Draining) c.args.self.now.rows)
    ]
