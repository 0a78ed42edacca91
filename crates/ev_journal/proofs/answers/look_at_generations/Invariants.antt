use Rattle.std.specs.List.{AllWithin}
use Rattle.ev_journal.specs.Rows.{IsGeneration}
use Rattle.ev_journal.proofs.answers.look_at_generations.Given as goal

abbrev pub invariant-loop-number : goal.invariant-loop-number
invariant-loop-number l = AllWithin IsGeneration l.numbers 0 l.number-index
