use Rattle.ev_model_laws.proofs.NextLemmas.{stray_found}
use Rattle.ev_model_laws.proofs.walks.finds_strays.Goals as goal

pub returns : goal.returns
returns c = stray_found
