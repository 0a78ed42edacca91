use Rattle.std.proofs.Common.{rules}
use Rattle.ev_tree.specs.Broken.{rules_of}
use Rattle.ev_tree.proofs.Leasts.{least_is_least}
use Rattle.ev_listener_json.specs.Filters.{chain_refused}
use Rattle.ev_listener_json.proofs.chains.chain_rule_is_least.Goals as goal

pub returns : goal.returns
returns c = λ chain. least_is_least (rules_of (chain_refused chain)) (search rules)
