use Rattle.std.proofs.Common.{arith}
use Rattle.std.proofs.lemmas.Grind.{common_steps}
use Rattle.std.proofs.lemmas.List.Elements.{AllWithin-more, at_read}
use Rattle.ev_types.specs.declared.events.Entry.{Entry}
use Rattle.ev_journal.specs.Rendering.{entry_row}
use Rattle.ev_journal.specs.Rows.{KeepsBounds}
use Rattle.ev_journal.proofs.writing.render_journal.Goals as goal

pub loop-entry-preserved : goal.loop-entry-preserved
loop-entry-preserved c = (
  grind (arith, common_steps),
  AllWithin-more (λ (entry : Entry). KeepsBounds (entry_row entry)) c.args.journal.now 0 c.loop-entry.entry-index c.loop-entry.invariant.1
      (at_read c.args.journal.now (λ (entry : Entry). KeepsBounds (entry_row entry)) c.loop-entry.entry-index c.entry-item.result c.loop-entry-test.true
      c.entry-item.is c.in_ok-write_line.ensures.bounded),
)

pub returns-clause-bounded : goal.returns-clause-bounded
returns-clause-bounded c = λ k d within. c.loop-entry.invariant.1 k d (omega arith) (omega (arith, within, c.loop-entry-test.false))
