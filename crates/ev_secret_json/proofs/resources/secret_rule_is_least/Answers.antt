use Rattle.std.proofs.Common.{rules}
use Rattle.ev_tree.specs.Broken.{rules_of}
use Rattle.ev_tree.proofs.Leasts.{least_is_least}
use Rattle.ev_secret_json.specs.Resources.{secret_broken}
use Rattle.ev_secret_json.proofs.resources.secret_rule_is_least.Goals as goal

pub returns : goal.returns
returns c = λ tree. least_is_least (rules_of (secret_broken tree)) (search rules)
