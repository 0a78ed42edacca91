use Rattle.std.proofs.Common.{◌∙◌, sym, ap, subst, IsSome}
use Rattle.std.specs.List.Sorted.{IsStrictlySortedBy}
use Rattle.std.specs.Ordering.{nat_cmp}
use Rattle.std.specs.Map.{keys_of, values_of}
use Rattle.ev_indexes.specs.Tables.{IsStored, row_in, without_row}
use Rattle.ev_indexes.proofs.StoredLemmas.{found_in, apart_of, apart_from_sorted, lookup_is, remove_entry_is, lookup-row_in, stored-remove_entry, values_of-remove_entry}
use Rattle.ev_indexes.proofs.table.Generations.remove.Goals as goal

pub unreachable-requires : goal.unreachable-requires
unreachable-requires c =
    found_in c.number.result c.self.inside.rows.entries c.self.inside.made c.self.invariant
    (subst IsSome (λ i. row_in (sym c.number.ensures.number i) (sym c.self.view_is i).rows) c.requires)
    (sym (lookup_is c.number.result c.self.inside.rows.entries) ∙ sym c.remove.ensures.value ∙ c.in_default.is)

pub invariant_of-self : goal.invariant_of-self
invariant_of-self c =
    let e = c.remove.ensures.entries ∙ remove_entry_is c.number.result c.self.inside.rows.entries in
    subst (λ es. IsStored es c.self.inside.made) (sym e)
    (stored-remove_entry c.number.result c.self.inside.rows.entries c.self.inside.made c.self.invariant
    (apart_from_sorted _ (subst (λ es. IsStrictlySortedBy nat_cmp (keys_of es)) e c.remove.ensures.ordered)))

pub returns-clause-row : goal.returns-clause-row
returns-clause-row c =
    (λ i. row_in (sym c.number.ensures.number i) (sym c.self.view_is i).rows)
    ∙ sym (lookup-row_in c.number.result c.self.inside.rows.entries c.self.invariant.numbered)
    ∙ sym (lookup_is c.number.result c.self.inside.rows.entries)
    ∙ sym c.remove.ensures.value ∙ c.in-Some.is

pub returns-clause-rows : goal.returns-clause-rows
returns-clause-rows c =
    ap values_of (c.remove.ensures.entries ∙ remove_entry_is c.number.result c.self.inside.rows.entries)
    ∙ values_of-remove_entry c.number.result c.self.inside.rows.entries c.self.invariant.numbered
    (apart_of c.self.inside.rows.entries c.self.inside.made c.self.invariant)
    ∙ (λ i. without_row (c.number.ensures.number i) (c.self.view_is i).rows)
