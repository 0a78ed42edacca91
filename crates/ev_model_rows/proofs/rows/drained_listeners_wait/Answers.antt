use Rattle.std.proofs.Common.{refl}
use Rattle.ev_model.specs.Phase.{has_come}
use Rattle.ev_model_rows.proofs.rows.drained_listeners_wait.Goals as goal

pub returns-clause-answers : goal.returns-clause-answers
unfolding has_come
returns-clause-answers c = refl

pub returns-clause-answers_of_format_1 : goal.returns-clause-answers_of_format_1
unfolding has_come
returns-clause-answers_of_format_1 c = refl
