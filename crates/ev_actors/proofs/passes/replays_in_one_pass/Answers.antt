use Rattle.ev_actors.proofs.PassLemmas.{in_one_pass}
use Rattle.ev_actors.proofs.passes.replays_in_one_pass.Goals as goal

pub returns : goal.returns
returns c = in_one_pass
