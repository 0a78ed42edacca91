use Rattle.std.proofs.Common.{◌≡◌, ◌-◌, ◌⊎◌, IsTrue}
use Rattle.std.specs.Io.KnownBytes.{IsAtEnd}
use Rattle.ev_io.specs.LinesState.{IsWithin}
use Rattle.ev_io.specs.ReadLine.{LeavesOpen}
use Rattle.ev_journal_read.proofs.JournalLemmas.{IsReading}
use Rattle.ev_journal_read.proofs.journal.read_rows.Given as goal

abbrev pub invariant-lines : goal.invariant-lines
invariant-lines g l = record {
  reading : IsReading (g.S.Source.left l.fn.source) (g.S.Source.left l.source) l.fn.lines l.lines l.body.rows.items l.body.ended;
  at_end : IsTrue l.lines.ended → IsTrue l.fn.lines.ended ⊎ IsAtEnd (g.S.Source.left l.source);
  unended : LeavesOpen g.S.Source.ended l.fn.source l.source l.fn.lines l.lines;
  at_most : IsWithin l.fn.lines → IsWithin l.lines;
  same_count : g.S.Source.faults l.source ≡ g.S.Source.faults l.fn.source;
}

abbrev pub decreases-lines : goal.decreases-lines
decreases-lines g l = 200000 - l.lines.given
