use Rattle.serde_json.specs.View.{view}
use Rattle.ev_trees.proofs.BackLemmas.{text_back}
use Rattle.ev_trees.proofs.kept_tree.text_of.Goals as goal

pub returns : goal.returns
returns c = text_back c.to_vec.result (view c.args.tree.now) c.requires c.to_vec.ensures.utf8 c.to_vec.ensures.reads_back
