use Rattle.std.proofs.Common.{refl}
use Rattle.ev_model.specs.Phase.{has_come}
use Rattle.ev_model_rows.proofs.rows.fresh_endpoints.Goals as goal

pub returns-clause-answers : goal.returns-clause-answers
unfolding has_come
returns-clause-answers c = refl

pub returns-clause-pictures : goal.returns-clause-pictures
unfolding has_come
returns-clause-pictures c = refl
