use Rattle.ev_model_laws.proofs.RefusedLemmas.{runs_stay}
use Rattle.ev_model_laws.proofs.run_laws.refused_updates_take_nothing_away.Goals as goal

pub returns : goal.returns
returns c = λ told run. runs_stay told run.answers
