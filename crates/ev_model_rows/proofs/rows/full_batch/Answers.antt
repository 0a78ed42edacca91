use Rattle.std.proofs.Common.{refl}
use Rattle.ev_model.specs.Phase.{has_come}
use Rattle.ev_model_rows.proofs.rows.full_batch.Goals as goal

pub returns : goal.returns
unfolding has_come
returns c = record { before = refl; there = refl; after = refl }
