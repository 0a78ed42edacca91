use Rattle.ev_model_laws.proofs.NextLemmas.{moves_on}
use Rattle.ev_model_laws.proofs.walks.moves_on.Goals as goal

pub returns : goal.returns
returns c = moves_on
