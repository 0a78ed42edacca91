use Rattle.std.proofs.Common.{rules}
use Rattle.ev_tree.specs.Broken.{rules_of}
use Rattle.ev_tree.proofs.Leasts.{least_is_least}
use Rattle.ev_tree.proofs.broken.least_is_least.Goals as goal

pub returns : goal.returns
returns c = λ broken. least_is_least (rules_of broken) (search rules)
