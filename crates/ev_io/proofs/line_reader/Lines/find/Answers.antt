use Rattle.std.proofs.Common.{inr, ◌∙◌}
use Rattle.ev_io.proofs.GrowLemmas.{grows_both, open_both, wanted_first}
use Rattle.ev_io.proofs.line_reader.Lines.find.Goals as goal

pub pieces-preserved : goal.pieces-preserved
pieces-preserved g c = record {
  grows = grows_both _ _ _ _ _ _ c.pieces.invariant.grows c.take_piece.ensures.grows;
  untold = c.in_ok-take_piece.ensures.told;
  untouched = inr (wanted_first _ _ _ _ c.pieces.invariant.untouched c.in_default.ensures.found);
  at_end = λ ended. inr (c.take_piece.ensures.at_end ended);
  unended = open_both _ _ _ _ _ _ _ c.pieces.invariant.unended c.take_piece.ensures.unended;
  same_count = c.in_ok-take_piece.ensures.same_count ∙ c.pieces.invariant.same_count;
}
