use Rattle.std.proofs.Common.{◌∙◌}
use Rattle.ev_indexes.specs.Tables.{row_in}
use Rattle.ev_indexes.proofs.StoredLemmas.{lookup_is, lookup-row_in}
use Rattle.ev_indexes.proofs.table.Generations.row.Goals as goal

pub returns-clause-row : goal.returns-clause-row
returns-clause-row g c =
    c.get.ensures.value ∙ lookup_is c.number.result c.self.inside.rows.entries ∙ lookup-row_in c.number.result c.self.inside.rows.entries c.self.invariant.numbered
    ∙ (λ i. row_in (c.number.ensures.number i) (c.self.view_is i).rows)
