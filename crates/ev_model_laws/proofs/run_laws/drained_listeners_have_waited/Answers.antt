use Rattle.ev_model_laws.proofs.WaitedLemmas.{runs_waited}
use Rattle.ev_model_laws.proofs.run_laws.drained_listeners_have_waited.Goals as goal

pub returns : goal.returns
returns c = λ told run. runs_waited told run.answers
