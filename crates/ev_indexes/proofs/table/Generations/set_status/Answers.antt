use Rattle.std.proofs.Common.{◌∙◌, sym, ap, subst, IsSome}
use Rattle.std.specs.Map.{values_of}
use Rattle.std.specs.Option.{option_copied_mut}
use Rattle.ev_indexes.specs.Tables.{IsStored, row_in, with_status}
use Rattle.ev_indexes.proofs.StoredLemmas.{found_in, apart_of, lookup_is, set_value_is, stored-set_value, values_of-set_value}
use Rattle.ev_indexes.proofs.table.Generations.set_status.Goals as goal

pub unreachable-requires : goal.unreachable-requires
unreachable-requires c =
    found_in c.number.result c.self.inside.rows.entries c.self.inside.made c.self.invariant
    (subst IsSome (λ i. row_in (sym c.number.ensures.number i) (sym c.self.view_is i).rows) c.requires)
    (sym (lookup_is c.number.result c.self.inside.rows.entries) ∙ sym c.get_mut.ensures.value ∙ (λ i. option_copied_mut (c.in_default.is i)))

pub invariant_of-self : goal.invariant_of-self
invariant_of-self c =
    let row = c.in-Some.row.now in
    let es = c.self.inside.rows.entries in
    subst (λ fs. IsStored fs c.self.inside.made)
    (sym ((c.get_mut.follows.holds (record row { status = c.args.status })).0 ∙ set_value_is c.number.result es (record row { status = c.args.status })))
    (stored-set_value c.number.result c.args.status row es c.self.inside.made c.self.invariant (sym (lookup_is c.number.result es) ∙ sym c.in-Some.ensures.value))

pub returns-clause-rows : goal.returns-clause-rows
returns-clause-rows c =
    let row = c.in-Some.row.now in
    let es = c.self.inside.rows.entries in
    ap values_of ((c.get_mut.follows.holds (record row { status = c.args.status })).0 ∙ set_value_is c.number.result es (record row { status = c.args.status }))
    ∙ values_of-set_value c.number.result c.args.status row es c.self.invariant.numbered
    (apart_of es c.self.inside.made c.self.invariant) (sym (lookup_is c.number.result es) ∙ sym c.in-Some.ensures.value)
    ∙ (λ i. with_status (c.number.ensures.number i) c.args.status (c.self.view_is i).rows)
