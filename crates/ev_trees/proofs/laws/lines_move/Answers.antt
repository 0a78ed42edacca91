use Rattle.ev_trees.proofs.MoveLemmas.{line-moves}
use Rattle.ev_trees.proofs.laws.lines_move.Goals as goal

pub returns : goal.returns
returns c = line-moves
