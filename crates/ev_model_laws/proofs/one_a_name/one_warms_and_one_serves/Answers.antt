use Rattle.ev_model_laws.proofs.OneANameLemmas.{stays_single}
use Rattle.ev_model_laws.proofs.one_a_name.one_warms_and_one_serves.Goals as goal

pub returns : goal.returns
returns c = stays_single
