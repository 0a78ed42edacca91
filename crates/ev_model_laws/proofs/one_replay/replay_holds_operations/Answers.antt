use Rattle.ev_model_laws.proofs.ReplayLemmas.{holds}
use Rattle.ev_model_laws.proofs.one_replay.replay_holds_operations.Goals as goal

pub returns : goal.returns
returns c = holds
