use Rattle.ev_io.proofs.LineLemmas.{none_further}
use Rattle.ev_io.proofs.found.line_length.Goals as goal

pub returns-clause-none : goal.returns-clause-none
returns-clause-none c =
    none_further c.args.bytes.now c.args.searched c.front_length.result c.requires.none c.front_length.ensures.none
