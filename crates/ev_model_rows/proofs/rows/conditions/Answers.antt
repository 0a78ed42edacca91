use Rattle.std.proofs.Common.{refl}
use Rattle.ev_types.specs.Decimals.{decimal_of, magnitude_of}
use Rattle.ev_model_rows.proofs.rows.conditions.Goals as goal

pub returns-clause-there : goal.returns-clause-there
returns-clause-there c = refl

pub returns-clause-missing : goal.returns-clause-missing
returns-clause-missing c = refl

pub returns-clause-ranges : goal.returns-clause-ranges
unfolding decimal_of magnitude_of
returns-clause-ranges c = (refl, refl)

pub returns-clause-paths : goal.returns-clause-paths
returns-clause-paths c = refl
