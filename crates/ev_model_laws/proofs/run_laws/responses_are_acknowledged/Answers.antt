use Rattle.ev_model_laws.proofs.ReplyLemmas.{runs_acknowledge}
use Rattle.ev_model_laws.proofs.run_laws.responses_are_acknowledged.Goals as goal

pub returns : goal.returns
returns c = λ told run. runs_acknowledge told run.answers
