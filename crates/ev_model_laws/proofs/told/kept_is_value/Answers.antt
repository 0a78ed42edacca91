use Rattle.ev_model_laws.proofs.KeptLemmas.{kept_value}
use Rattle.ev_model_laws.proofs.told.kept_is_value.Goals as goal

pub returns : goal.returns
returns c = kept_value
