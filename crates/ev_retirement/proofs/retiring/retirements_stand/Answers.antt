use Rattle.ev_retirement.proofs.RetireLemmas.{retirements_stand}
use Rattle.ev_retirement.proofs.retiring.retirements_stand.Goals as goal

pub returns : goal.returns
returns c = retirements_stand
