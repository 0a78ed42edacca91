use Rattle.ev_trees.proofs.LimitLemmas.{limits_stay}
use Rattle.ev_trees.proofs.laws.within_limits.Goals as goal

pub returns : goal.returns
returns c = limits_stay
