use Rattle.ev_model_laws.proofs.ReplayLemmas.{has_replay}
use Rattle.ev_model_laws.proofs.one_replay.has_a_replay.Goals as goal

pub returns : goal.returns
returns c = has_replay
