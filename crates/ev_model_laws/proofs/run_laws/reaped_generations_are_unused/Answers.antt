use Rattle.ev_model_laws.proofs.LawLemmas.{runs_unused}
use Rattle.ev_model_laws.proofs.run_laws.reaped_generations_are_unused.Goals as goal

pub returns : goal.returns
returns c = λ told run. runs_unused told run.answers
