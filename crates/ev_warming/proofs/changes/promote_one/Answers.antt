use Rattle.std.proofs.Common.{◌∙◌, sym, ap}
use Rattle.ev_model.specs.Rows.{with_statuses}
use Rattle.ev_indexes.specs.Ready.{is_ready_in}
use Rattle.ev_indexes.specs.Indexes.{key_in}
use Rattle.ev_warming.specs.Promotion.{rows_promoted, status_drained}
use Rattle.ev_warming.proofs.WayLemmas.{promoted-one}
use Rattle.ev_warming.proofs.changes.promote_one.Goals as goal

pub returns-clause-rows : goal.returns-clause-rows
returns-clause-rows g c =
    let s = c.args.state.now in
    ap (rows_promoted (is_ready_in s.watches s.results)) c.serve.ensures.rows
    ∙ promoted-one s c.requires.indexed c.args.number c.in-Some.row.now (sym c.in-Some.ensures.row) c.requires.due
    c.make_way-before.new.state.table.rows (c.make_way-before.ensures.rows ∙ (λ i. with_statuses (status_drained (key_in (sym c.in-Some.ensures.row i))) s.table.rows))
