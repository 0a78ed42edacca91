use Rattle.ev_tree.proofs.Leasts.{least_is_least}
use Rattle.ev_tree.proofs.rules.first_is_least.Goals as goal

pub returns : goal.returns
returns c = least_is_least
