use Rattle.std.proofs.Common.{◌∙◌, sym, ap}
use Rattle.ev_types.specs.Statuses.{is_warming}
use Rattle.ev_indexes.specs.Tables.{row_in}
use Rattle.ev_model.specs.Rows.{removed_status}
use Rattle.ev_indexes.specs.Indexes.{status_in, key_in}
use Rattle.ev_warming.proofs.WayLemmas.{found_warm, way-none, way-live, way-rows, way-row, way-due, way-alone}
use Rattle.ev_warming.proofs.changes.make_way.Goals as goal

pub retire-requires-clause-live : goal.retire-requires-clause-live
retire-requires-clause-live g c =
    let s = c.args.state.now in
    way-live s c.requires.indexed (key_in (row_in c.args.number s.table.rows)) c.in-Some.before (sym c.requires.active ∙ c.in-Some.is)

pub returns-clause-rows : goal.returns-clause-rows
returns-clause-rows g c =
    let s = c.args.state.now in
    c.retire.ensures.rows ∙ way-rows s c.requires.indexed (key_in (row_in c.args.number s.table.rows)) c.in-Some.before (sym c.requires.active ∙ c.in-Some.is)

pub returns-clause-row : goal.returns-clause-row
returns-clause-row g c =
    let s = c.args.state.now in
    let own = found_warm (row_in c.args.number s.table.rows) c.requires.warms in
    ap (row_in c.args.number) c.retire.ensures.rows
    ∙ way-row s c.requires.indexed (key_in (row_in c.args.number s.table.rows)) c.in-Some.before (sym c.requires.active ∙ c.in-Some.is)
    c.args.number own.0 (removed_status (status_in (row_in c.in-Some.before s.table.rows))) own.1 ((λ i. is_warming (status_in (sym own.1 i))) ∙ c.requires.warms)

pub returns-clause-alone : goal.returns-clause-alone
returns-clause-alone g c =
    let s = c.args.state.now in
    way-alone s c.requires.indexed (key_in (row_in c.args.number s.table.rows)) c.in-Some.before (sym c.requires.active ∙ c.in-Some.is)
    c.retire.new.state c.retire.ensures.indexed c.retire.ensures.rows

pub returns-clause-due : goal.returns-clause-due
returns-clause-due g c =
    let s = c.args.state.now in
    λ n. c.retire.ensures.due n
    ∙ way-due s c.requires.indexed (key_in (row_in c.args.number s.table.rows)) c.in-Some.before (sym c.requires.active ∙ c.in-Some.is) n

pub returns-in_default-clause-rows : goal.returns-in_default-clause-rows
returns-in_default-clause-rows g c =
    let s = c.args.state.now in
    way-none s c.requires.indexed (key_in (row_in c.args.number s.table.rows)) (sym c.requires.active ∙ c.in_default.is)
