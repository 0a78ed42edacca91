use Rattle.ev_model_laws.proofs.NumberLemmas.{draws_in_order}
use Rattle.ev_model_laws.proofs.numbers.numbers_are_drawn_once.Goals as goal

pub returns : goal.returns
returns c = draws_in_order
