use Rattle.ev_sotw.proofs.ReadLemmas.{read_so}
use Rattle.ev_sotw.proofs.laws.deltas_are_read.Goals as goal

pub returns : goal.returns
returns c = read_so
