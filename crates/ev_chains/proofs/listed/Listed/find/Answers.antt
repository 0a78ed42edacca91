use Rattle.std.proofs.Common.{◌∙◌, ap, sym, Some, find, arith}
use Rattle.ev_chains.specs.Rows.{row_has}
use Rattle.ev_chains.proofs.KeyLemmas.{at_place, found_at, no_place}
use Rattle.ev_chains.proofs.listed.Listed.find.Goals as goal

pub index-requires : goal.index-requires
index-requires c =
    let found = at_place (row_has c.args.key.now) 0 c.self.inside.rows.items c.in-Some.place.now (sym (c.self.invariant.finds c.args.key.now) ∙ sym c.in-Some.ensures.value) in
    omega (arith, found.within)

pub returns-in-Some : goal.returns-in-Some
returns-in-Some c =
    ap Some c.index.ensures
    ∙ sym (found_at (row_has c.args.key.now) c.self.inside.rows.items c.in-Some.place.now c.index.result.now (sym (c.self.invariant.finds c.args.key.now) ∙ sym c.in-Some.ensures.value))
    ∙ ap (find (row_has c.args.key.now)) c.self.view_is

pub returns-in-None : goal.returns-in-None
returns-in-None c =
    sym (no_place (row_has c.args.key.now) 0 c.self.inside.rows.items (sym (c.self.invariant.finds c.args.key.now) ∙ sym c.in-None.ensures.value))
    ∙ ap (find (row_has c.args.key.now)) c.self.view_is
