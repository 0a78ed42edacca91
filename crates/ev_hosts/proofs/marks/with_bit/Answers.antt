use Rattle.std.proofs.Common.{◌==◌, ◌∙◌, sym, cond}
use Rattle.ev_hosts.specs.Bits.{has_bit}
use Rattle.ev_hosts.proofs.MarkLemmas.{puts_set, puts_clear}
use Rattle.ev_hosts.proofs.marks.with_bit.Goals as goal

pub returns-then-mark : goal.returns-then-mark
returns-then-mark c = λ k low.
    puts_set c.args.word c.args.place c.requires k low ∙ (λ i. cond (k == c.args.place) (sym c.if-mark.true i) (has_bit c.args.word k))

pub returns-else-mark : goal.returns-else-mark
returns-else-mark c = λ k low.
    puts_clear c.args.word c.args.place c.requires k low ∙ (λ i. cond (k == c.args.place) (sym c.if-mark.false i) (has_bit c.args.word k))
