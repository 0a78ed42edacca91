use Rattle.ev_model_laws.proofs.PhaseLemmas.{never_goes_back}
use Rattle.ev_model_laws.proofs.phase_forward.phase_never_goes_back.Goals as goal

pub returns : goal.returns
returns c = never_goes_back
