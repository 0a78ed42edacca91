use Rattle.ev_chains.proofs.ChainLemmas.{stays}
use Rattle.ev_chains.proofs.laws.chains_stay.Goals as goal

pub returns : goal.returns
returns c = λ events start place row made after within. stays events start row place after within made
