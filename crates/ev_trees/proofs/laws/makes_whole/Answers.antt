use Rattle.ev_tree.proofs.FloatLemmas.{made_whole}
use Rattle.ev_trees.proofs.laws.makes_whole.Goals as goal

pub returns : goal.returns
returns c = made_whole
