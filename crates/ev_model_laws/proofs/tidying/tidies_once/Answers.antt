use Rattle.ev_model_laws.proofs.TidyLemmas.{tidied_once}
use Rattle.ev_model_laws.proofs.tidying.tidies_once.Goals as goal

pub returns : goal.returns
returns c = tidied_once
