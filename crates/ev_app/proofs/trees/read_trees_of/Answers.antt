-- What was read, at each end.
use Rattle.std.proofs.lemmas.Result.{err_from_is_err_and}
use Rattle.ev_app.proofs.TreeLemmas.{reads_no_tree, reads_trees}
use Rattle.ev_app.proofs.trees.read_trees_of.Goals as goal

pub returns-in_err-lines-clause-reads : goal.returns-in_err-lines-clause-reads
returns-in_err-lines-clause-reads g c =
    let p = err_from_is_err_and c.from_residual.result c.from_residual.ensures.1 in
    rw (p.1, p.2) (reads_no_tree (g.F.Forms.forms) (g.S.Source.left c.args.source.now))

pub returns-clause-reads : goal.returns-clause-reads
returns-clause-reads g c =
    reads_trees (g.F.Forms.forms) (g.S.Source.left c.args.source.now) (g.S.Source.left c.read_trees_with.new.source) c.read_trees_with.new.lines c.read_trees_with.result c.read_trees_with.ensures.at_most c.read_trees_with.ensures.at_end c.read_trees_with.ensures.reads

pub returns-clause-unended : goal.returns-clause-unended
returns-clause-unended g c = λ e. c.read_trees_with.ensures.unended.unended (c.read_trees_with.ensures.goes_on e)
