use Rattle.std.proofs.Common.{◌∙◌, sym}
use Rattle.ev_lookups.specs.Keys.{named}
use Rattle.ev_warming.proofs.AddLemmas.{drop-none, drop-live, drop-rows, drop-alone}
use Rattle.ev_warming.proofs.changes.drop_warming.Goals as goal

pub retire-requires-clause-live : goal.retire-requires-clause-live
retire-requires-clause-live g c =
    let s = c.args.state.now in
    drop-live s c.requires.indexed (named c.args.kind c.args.name.now) c.in-Some.before ((λ i. (sym c.standing.ensures i).warming) ∙ c.in-Some.is)

pub returns-in-Some-clause-rows : goal.returns-in-Some-clause-rows
returns-in-Some-clause-rows g c =
    let s = c.args.state.now in
    c.retire.ensures.rows ∙ drop-rows s c.requires.indexed (named c.args.kind c.args.name.now) c.in-Some.before ((λ i. (sym c.standing.ensures i).warming) ∙ c.in-Some.is)

pub returns-in-Some-clause-alone : goal.returns-in-Some-clause-alone
returns-in-Some-clause-alone g c =
    let s = c.args.state.now in
    drop-alone s c.requires.indexed (named c.args.kind c.args.name.now) c.in-Some.before ((λ i. (sym c.standing.ensures i).warming) ∙ c.in-Some.is)
    c.retire.new.state c.retire.ensures.indexed c.retire.ensures.rows

pub returns-in_default-clause-rows : goal.returns-in_default-clause-rows
returns-in_default-clause-rows g c =
    let s = c.args.state.now in
    drop-none s c.requires.indexed (named c.args.kind c.args.name.now) ((λ i. (sym c.standing.ensures i).warming) ∙ c.in_default.is)
