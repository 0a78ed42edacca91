use Rattle.ev_expand.proofs.ReadLemmas.{waiting_reads}
use Rattle.ev_expand.proofs.laws.lines_wait.Goals as goal

pub returns : goal.returns
returns c = waiting_reads
