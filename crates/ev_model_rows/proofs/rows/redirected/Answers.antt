use Rattle.std.proofs.Common.{refl}
use Rattle.std.specs.Fmt.{digits}
use Rattle.ev_model.specs.Phase.{has_come}
use Rattle.ev_model_rows.proofs.rows.redirected.Goals as goal

pub returns : goal.returns
unfolding has_come digits
returns c = record { answers = refl }
