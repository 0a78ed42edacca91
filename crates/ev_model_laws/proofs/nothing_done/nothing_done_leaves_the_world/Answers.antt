use Rattle.ev_model_laws.proofs.NothingDoneLemmas.{left_as_it_was}
use Rattle.ev_model_laws.proofs.nothing_done.nothing_done_leaves_the_world.Goals as goal

pub returns : goal.returns
returns c = left_as_it_was
