use Rattle.std.proofs.Common.{rules}
use Rattle.ev_tree.specs.Broken.{rules_of}
use Rattle.ev_tree.proofs.Leasts.{least_is_least}
use Rattle.ev_cluster_json.specs.Assignments.{assignment_broken}
use Rattle.ev_cluster_json.proofs.assignments.assignment_rule_is_least.Goals as goal

pub returns : goal.returns
returns c = λ profile tree. least_is_least (rules_of (assignment_broken profile tree)) (search rules)
