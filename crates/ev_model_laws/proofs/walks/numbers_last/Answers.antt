use Rattle.ev_model_laws.proofs.WalkDrawnLemmas.{numbers_suffice}
use Rattle.ev_model_laws.proofs.walks.numbers_last.Goals as goal

pub returns : goal.returns
returns c = λ format script rows place row o kept. numbers_suffice format script kept rows place row o
