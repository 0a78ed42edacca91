use Rattle.ev_trees.proofs.LineLemmas.{lines_are}
use Rattle.ev_trees.proofs.laws.lines_of_trees.Goals as goal

pub returns : goal.returns
returns c = lines_are
