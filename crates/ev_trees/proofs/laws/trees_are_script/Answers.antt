use Rattle.ev_trees.proofs.ScriptLemmas.{script_is}
use Rattle.ev_trees.proofs.laws.trees_are_script.Goals as goal

pub returns : goal.returns
returns c = script_is
