use Rattle.std.proofs.Common.{◌∙◌, ap, ◌+◌, ◌++◌, [], ◌∷◌, arith}
use Rattle.std.specs.BTreeMap.{values}
use Rattle.ev_types.specs.declared.rows.GenRow.{GenRow}
use Rattle.ev_model.specs.Rows.{new_row}
use Rattle.ev_indexes.proofs.StoredLemmas.{keys_below, stored-insert, values_of-insert}
use Rattle.ev_indexes.proofs.table.Generations.add.Goals as goal

pub invariant_of-self-2 : goal.invariant_of-self-2
invariant_of-self-2 c =
    let es = c.self.inside.rows.entries in
    let made = c.self.inside.made in
    let row = c.warming_row-row.result in
    let number = ap (λ (r : GenRow). r.number) c.warming_row-row.ensures ∙ c.new.ensures.number in
    stored-insert es (made + 1) row number (keys_below es made c.self.invariant)
    made (made + 1) c.insert.new.self.entries c.self.invariant (omega arith) (omega arith) c.in-Ok.ensures.entries c.insert.ensures.ordered

pub returns-clause-added : goal.returns-clause-added
returns-clause-added c =
    let es = c.self.inside.rows.entries in
    let made = c.self.inside.made in
    let row = c.warming_row-row.result in
    let number = ap (λ (r : GenRow). r.number) c.warming_row-row.ensures ∙ c.new.ensures.number in
    values_of-insert es (made + 1) row number (keys_below es made c.self.invariant) c.insert.new.self.entries c.in-Ok.ensures.entries
    ∙ ap (λ r. values c.self.inside.rows ++ r ∷ []) c.warming_row-row.ensures
    ∙ (λ i. (c.self.view_is i).rows ++ (record (new_row c.args.kind made c.args.name c.args.content c.args.kept) { number = c.new.ensures.number i }) ∷ [])
    ∙ (λ i. c.args.self.now.rows ++ new_row c.args.kind (c.self.view_is i).made c.args.name c.args.content c.args.kept ∷ [])

pub returns-clause-table : goal.returns-clause-table
returns-clause-table c =
    let es = c.self.inside.rows.entries in
    let made = c.self.inside.made in
    let row = c.warming_row-row.result in
    let number = ap (λ (r : GenRow). r.number) c.warming_row-row.ensures ∙ c.new.ensures.number in
    (stored-insert es (made + 1) row number (keys_below es made c.self.invariant)
    made (made + 1) c.insert.new.self.entries c.self.invariant (omega arith) (omega arith) c.in-Ok.ensures.entries c.insert.ensures.ordered).table
