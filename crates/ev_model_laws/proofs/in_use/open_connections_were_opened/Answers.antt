use Rattle.ev_model_laws.proofs.OpenLemmas.{runs_open}
use Rattle.ev_model_laws.proofs.in_use.open_connections_were_opened.Goals as goal

pub returns : goal.returns
returns c = λ told run k le. runs_open told run.answers k le
