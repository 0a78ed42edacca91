use Rattle.ev_model_laws.proofs.ConnectionLemmas.{runs_keep_bodies}
use Rattle.ev_model_laws.proofs.run_laws.moves_keep_the_chain.Goals as goal

pub returns : goal.returns
returns c = λ told run. runs_keep_bodies told run.answers
