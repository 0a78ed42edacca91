use Rattle.ev_tls.proofs.SealedLemmas.{sealed}
use Rattle.ev_tls.proofs.laws.accepts_are_sealed.Goals as goal

pub returns : goal.returns
returns c = sealed
