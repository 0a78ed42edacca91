use Rattle.ev_model_laws.proofs.NarrowingLemmas.{one_is_left}
use Rattle.ev_model_laws.proofs.narrowing.one_chain_is_left.Goals as goal

pub returns : goal.returns
returns c = one_is_left
