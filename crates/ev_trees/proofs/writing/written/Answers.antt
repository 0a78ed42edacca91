use Rattle.serde_json.specs.View.{view}
use Rattle.ev_trees.proofs.BackLemmas.{written_back}
use Rattle.ev_trees.proofs.writing.written.Goals as goal

pub returns-clause-reads_back : goal.returns-clause-reads_back
returns-clause-reads_back c =
    written_back c.to_vec.result (view c.args.tree.now) c.requires.whole c.to_vec.ensures.text c.to_vec.ensures.utf8 c.to_vec.ensures.reads_back
