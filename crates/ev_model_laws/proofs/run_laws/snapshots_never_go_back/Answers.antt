use Rattle.ev_model_laws.proofs.LawLemmas.{runs_forward}
use Rattle.ev_model_laws.proofs.run_laws.snapshots_never_go_back.Goals as goal

pub returns : goal.returns
returns c = λ told run. runs_forward told run.answers
