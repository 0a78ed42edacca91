use Rattle.std.proofs.Common.{◌||◌, ap, ◌∙◌}
use Rattle.ev_drain.proofs.MarkLemmas.{mark_none, wait_none, mark_more, wait_more}
use Rattle.ev_drain.proofs.notes.mark.Goals as goal

pub loop-number-init : goal.loop-number-init
loop-number-init c = (mark_none c.args.name.now c.args.notes.now.entries, wait_none c.args.name.now c.args.notes.now.entries)

pub loop-number-preserved : goal.loop-number-preserved
loop-number-preserved c = (
  c.mark_numbered-meant.ensures.entries
      ∙ mark_more c.args.name.now c.args.numbers.now c.loop-number.number-index c.number-item.result c.loop-number.notes.entries c.args.notes.now.entries
      c.loop-number-test.true c.number-item.is c.loop-number.invariant.0,
  ap (λ b. c.loop-number.meant || b) c.mark_numbered-meant.ensures.answer
      ∙ wait_more c.args.name.now c.args.numbers.now c.loop-number.number-index c.number-item.result c.loop-number.notes.entries c.args.notes.now.entries c.loop-number.meant
      c.loop-number-test.true c.number-item.is c.loop-number.invariant.0 c.loop-number.invariant.1,
)
