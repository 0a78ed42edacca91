use Rattle.std.specs.List.{AllWithin}
use Rattle.ev_journal.specs.Rows.{KeepsRule}
use Rattle.ev_journal.proofs.answers.look_at_verdicts.Given as goal

abbrev pub invariant-loop-verdict : goal.invariant-loop-verdict
invariant-loop-verdict l = AllWithin KeepsRule l.verdicts 0 l.verdict-index
