use Rattle.std.proofs.Common.{refl}
use Rattle.ev_model.specs.Phase.{has_come}
use Rattle.ev_model_rows.proofs.rows.findings.Goals as goal

pub returns : goal.returns
unfolding has_come
returns c = record {
  whole = refl;
  too_early = refl;
  short = refl;
  left_out = refl;
  none = refl;
  one_missing = refl;
  none_missing = refl;
  waits = refl;
  waits_not = refl;
}
