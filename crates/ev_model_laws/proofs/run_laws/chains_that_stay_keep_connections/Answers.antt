use Rattle.ev_model_laws.proofs.ConnectionLemmas.{runs_keep_connections}
use Rattle.ev_model_laws.proofs.run_laws.chains_that_stay_keep_connections.Goals as goal

pub returns : goal.returns
returns c = λ told run. runs_keep_connections told run.answers
