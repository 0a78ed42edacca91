use Rattle.std.proofs.Common.{◌∙◌, ap}
use Rattle.ev_model.specs.Rows.{with_statuses}
use Rattle.ev_model.specs.Signals.{ended_status}
use Rattle.ev_lookups.specs.Keys.{named}
use Rattle.ev_warming.specs.Promotion.{status_drained}
use Rattle.ev_warming.proofs.WayLemmas.{marks-then}
use Rattle.ev_warming.proofs.ArrivalLemmas.{statused-stands, ended-rows}
use Rattle.ev_warming.proofs.changes.end.Goals as goal

pub returns-clause-rows : goal.returns-clause-rows
returns-clause-rows g c =
    let s = c.args.state.now in
    c.drain_active.ensures.rows ∙ ap (with_statuses (status_drained (named c.args.kind c.args.name.now))) c.drop_warming.ensures.rows
    ∙ ended-rows c.args.kind c.args.name.now s.table.rows

pub returns-clause-stands : goal.returns-clause-stands
returns-clause-stands g c = λ world stands.
    let s = c.args.state.now in
    let t = c.drop_warming.new.state in
    let u = c.drain_active.new.state in
    statused-stands s u world (ended_status c.args.kind c.args.name.now) stands
    (c.drain_active.ensures.made ∙ c.drop_warming.ensures.made)
    ((λ i. (c.drain_active.ensures.others i).results) ∙ (λ i. (c.drop_warming.ensures.others i).results))
    (marks-then s.watches t.watches u.watches c.drop_warming.ensures.marks c.drain_active.ensures.marks)
    (c.drain_active.ensures.rows ∙ ap (with_statuses (status_drained (named c.args.kind c.args.name.now))) c.drop_warming.ensures.rows
    ∙ ended-rows c.args.kind c.args.name.now s.table.rows)
