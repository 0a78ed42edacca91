use Rattle.std.proofs.Common.{◌≡◌, ◌-◌, IsTrue}
use Rattle.std.specs.Io.KnownBytes.{IsAtEnd}
use Rattle.ev_io.specs.LinesState.{IsWithin}
use Rattle.ev_io.specs.ReadLine.{LeavesOpen}
use Rattle.ev_script.proofs.ReadingLemmas.{IsReading}
use Rattle.ev_script.proofs.read_input.read_up_to_journal.Given as goal

abbrev pub invariant-lines : goal.invariant-lines
invariant-lines g l = record {
  reading : IsReading g.F.Forms.forms g.F.Forms.keeps_head g.F.Forms.keeps l.audit (g.S.Source.left l.fn.source) (g.S.Source.left l.source) l.lines l.settings l.head l.kept.items;
  at_end : IsTrue l.lines.ended → IsAtEnd (g.S.Source.left l.source);
  unended : LeavesOpen g.S.Source.ended l.fn.source l.source l.fn.lines l.lines;
  at_most : IsWithin l.lines;
  same_count : g.S.Source.faults l.source ≡ g.S.Source.faults l.fn.source;
}

abbrev pub decreases-lines : goal.decreases-lines
decreases-lines g l = 200000 - l.lines.given
