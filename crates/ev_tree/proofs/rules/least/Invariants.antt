use Rattle.std.proofs.Common.{◌≡◌, drop}
use Rattle.ev_tree.specs.Rules.{least}
use Rattle.ev_tree.proofs.rules.least.Given as goal

abbrev pub invariant-loop-rule : goal.invariant-loop-rule
invariant-loop-rule l = least (drop l.rule-index l.rules) ≡ least l.rules
