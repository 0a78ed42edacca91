use Rattle.ev_model_laws.proofs.InUseLemmas.{runs_use}
use Rattle.ev_model_laws.proofs.in_use.use_nothing_that_was_reaped.Goals as goal

pub returns : goal.returns
returns c = λ told run k le. runs_use told run.answers k le
