use Rattle.std.proofs.Common.{◌≡◌, ◌+◌, ◌-◌, ◌⊎◌, List, ℕ, None, cond, IsTrue}
use Rattle.std.specs.Io.KnownBytes.{IsAtEnd}
use Rattle.ev_io.specs.declared.limits.TheConstants.{MAX_INPUT_BYTES}
use Rattle.ev_io.specs.LinesState.{FindsNext, Grows}
use Rattle.ev_io.specs.ReadLine.{LeavesOpen}
use Rattle.ev_io.proofs.line_reader.Lines.find.Given as goal

abbrev pub invariant-pieces : goal.invariant-pieces
invariant-pieces g l = record {
  grows : (more : List ℕ) × Grows (g.S.Source.left l.initial.source) (g.S.Source.left l.source) l.initial.self l.self more;
  untold : l.self.told ≡ None;
  untouched : ((l.source ≡ l.initial.source) × (l.self ≡ l.initial.self)) ⊎ FindsNext l.initial.self None;
  at_end : IsTrue l.self.ended → IsTrue l.initial.self.ended ⊎ IsAtEnd (g.S.Source.left l.source);
  unended : LeavesOpen g.S.Source.ended l.initial.source l.source l.initial.self l.self;
  same_count : g.S.Source.faults l.source ≡ g.S.Source.faults l.initial.source;
}

abbrev pub decreases-pieces : goal.decreases-pieces
decreases-pieces g l = cond l.self.ended 0 (MAX_INPUT_BYTES + 2 - l.self.taken)
