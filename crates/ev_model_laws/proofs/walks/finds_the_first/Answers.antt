use Rattle.ev_model_laws.proofs.FirstLemmas.{first_found, none_found}
use Rattle.ev_model_laws.proofs.walks.finds_the_first.Goals as goal

pub returns : goal.returns
returns c = record { place = first_found; end = none_found }
