use Rattle.ev_model_laws.proofs.AcknowledgeLemmas.{acknowledges}
use Rattle.ev_model_laws.proofs.acknowledging.acknowledges_exactly.Goals as goal

pub returns : goal.returns
returns c = acknowledges
