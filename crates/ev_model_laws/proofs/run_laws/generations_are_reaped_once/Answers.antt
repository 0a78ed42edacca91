use Rattle.ev_model_laws.proofs.OnceLemmas.{runs_once}
use Rattle.ev_model_laws.proofs.run_laws.generations_are_reaped_once.Goals as goal

pub returns : goal.returns
returns c = λ told run. runs_once told run.answers
