use Rattle.ev_model_laws.proofs.HoldLemmas.{side_holds}
use Rattle.ev_model_laws.proofs.main_side.main_side_holds.Goals as goal

pub returns : goal.returns
returns c = side_holds
