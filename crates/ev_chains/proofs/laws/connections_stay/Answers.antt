use Rattle.ev_chains.proofs.PairLemmas.{pairs}
use Rattle.ev_chains.proofs.laws.connections_stay.Goals as goal

pub returns : goal.returns
returns c = λ events place conn number within. pairs events conn number place within
