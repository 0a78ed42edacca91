use Rattle.ev_model_laws.proofs.ReplayLemmas.{is_run_of}
use Rattle.ev_model_laws.proofs.one_replay.replay_is_a_run_of_its_script.Goals as goal

pub returns : goal.returns
returns c = is_run_of
