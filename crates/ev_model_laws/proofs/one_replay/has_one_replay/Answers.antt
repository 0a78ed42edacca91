use Rattle.ev_model_laws.proofs.ReplayLemmas.{one_replay}
use Rattle.ev_model_laws.proofs.one_replay.has_one_replay.Goals as goal

pub returns : goal.returns
returns c = one_replay
