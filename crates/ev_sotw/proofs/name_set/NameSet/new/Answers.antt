use Rattle.ev_sotw.proofs.NameSetLemmas.{keys-in_order}
use Rattle.ev_sotw.proofs.name_set.NameSet.new.Goals as goal

pub invariant_of-result : goal.invariant_of-result
invariant_of-result c = keys-in_order c.new.result.keys c.new.ensures.ordered
