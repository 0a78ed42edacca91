use Rattle.std.proofs.Common.{true, sym, subst, arith}
use Rattle.ev_indexes.specs.Numbers.{AreStored}
use Rattle.ev_indexes.proofs.NumberLemmas.{rise-none}
use Rattle.ev_indexes.proofs.numbers.Numbers.new.Goals as goal

pub invariant_of-result : goal.invariant_of-result
invariant_of-result c = subst (AreStored 0 true) (sym c.new.ensures.items) (record { within = omega arith; rising = λ known. rise-none })
