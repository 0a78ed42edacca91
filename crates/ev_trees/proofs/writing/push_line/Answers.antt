use Rattle.ev_trees.proofs.BackLemmas.{on_ok}
use Rattle.ev_trees.proofs.writing.push_line.Goals as goal

pub returns-clause-reads_back : goal.returns-clause-reads_back
returns-clause-reads_back c = on_ok c.extend_from_slice.result c.in_ok-line.ensures.reads_back
