use Rattle.ev_model_laws.proofs.WarmedLemmas.{runs_warmed}
use Rattle.ev_model_laws.proofs.run_laws.connections_go_to_warmed_generations.Goals as goal

pub returns : goal.returns
returns c = λ told run. runs_warmed told run.answers
