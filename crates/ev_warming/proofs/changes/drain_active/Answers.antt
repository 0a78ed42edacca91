use Rattle.std.proofs.Common.{◌∙◌, sym}
use Rattle.ev_lookups.specs.Keys.{named}
use Rattle.ev_warming.proofs.WayLemmas.{way-none, way-live, way-rows}
use Rattle.ev_warming.proofs.changes.drain_active.Goals as goal

pub retire-requires-clause-live : goal.retire-requires-clause-live
retire-requires-clause-live g c =
    let s = c.args.state.now in
    way-live s c.requires.indexed (named c.args.kind c.args.name.now) c.in-Some.before ((λ i. (sym c.standing.ensures i).active) ∙ c.in-Some.is)

pub returns-in-Some-clause-rows : goal.returns-in-Some-clause-rows
returns-in-Some-clause-rows g c =
    let s = c.args.state.now in
    c.retire.ensures.rows ∙ way-rows s c.requires.indexed (named c.args.kind c.args.name.now) c.in-Some.before ((λ i. (sym c.standing.ensures i).active) ∙ c.in-Some.is)

pub returns-in_default-clause-rows : goal.returns-in_default-clause-rows
returns-in_default-clause-rows g c =
    let s = c.args.state.now in
    way-none s c.requires.indexed (named c.args.kind c.args.name.now) ((λ i. (sym c.standing.ensures i).active) ∙ c.in_default.is)
