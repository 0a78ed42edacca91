use Rattle.ev_sotw_delta.proofs.WorldLemmas.{same_world}
use Rattle.ev_sotw_delta.proofs.laws.same_world.Goals as goal

pub returns : goal.returns
returns c = same_world
