use Rattle.ev_model_laws.proofs.FindingLemmas.{found_exactly}
use Rattle.ev_model_laws.proofs.legal_findings.legal_exactly.Goals as goal

pub returns : goal.returns
returns c = found_exactly
