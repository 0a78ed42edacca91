use Rattle.ev_model_laws.proofs.RowLemmas.{stand_by_number}
use Rattle.ev_model_laws.proofs.by_number.rows_stand_by_number.Goals as goal

pub returns : goal.returns
returns c = stand_by_number
