use Rattle.ev_model_laws.proofs.ToldLemmas.{told_stay}
use Rattle.ev_model_laws.proofs.told.told_stays.Goals as goal

pub returns : goal.returns
returns c = told_stay
