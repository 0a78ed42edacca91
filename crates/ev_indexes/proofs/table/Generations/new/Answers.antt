use Rattle.std.proofs.Common.{sym, subst}
use Rattle.ev_indexes.specs.Tables.{IsStored}
use Rattle.ev_indexes.proofs.StoredLemmas.{stored_none}
use Rattle.ev_indexes.proofs.table.Generations.new.Goals as goal

pub invariant_of-result : goal.invariant_of-result
invariant_of-result c = subst (λ es. IsStored es 0) (sym c.new.ensures.empty) (stored_none 0)
