use Rattle.std.proofs.Common.{refl}
use Rattle.ev_model_rows.proofs.rows.narrowing.Goals as goal

pub returns-clause-no_way_back : goal.returns-clause-no_way_back
returns-clause-no_way_back c = refl

pub returns-clause-ranges : goal.returns-clause-ranges
returns-clause-ranges c = (refl, refl, refl)

pub returns-clause-names : goal.returns-clause-names
returns-clause-names c = (refl, refl, refl, refl)

pub returns-clause-transports : goal.returns-clause-transports
returns-clause-transports c = (refl, refl)

pub returns-clause-protocols : goal.returns-clause-protocols
returns-clause-protocols c = refl

pub returns-clause-sources : goal.returns-clause-sources
returns-clause-sources c = (refl, refl, refl, refl, refl)

pub returns-clause-source_types : goal.returns-clause-source_types
returns-clause-source_types c = (refl, refl, refl, refl, refl, refl)
