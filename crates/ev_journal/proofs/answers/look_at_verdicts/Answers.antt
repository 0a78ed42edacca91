use Rattle.std.proofs.Common.{arith}
use Rattle.ev_journal.proofs.answers.look_at_verdicts.Goals as goal

pub returns : goal.returns
returns c = λ k d within. (c.loop-verdict.invariant k d (omega arith) (omega (arith, within, c.loop-verdict-test.false))).rule
