use Rattle.ev_model_laws.proofs.NextLemmas.{takes_next}
use Rattle.ev_model_laws.proofs.walks.takes_next.Goals as goal

pub returns : goal.returns
returns c = takes_next
