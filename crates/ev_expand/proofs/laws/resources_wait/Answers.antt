use Rattle.ev_expand.proofs.ReadLemmas.{guarded_item}
use Rattle.ev_expand.proofs.laws.resources_wait.Goals as goal

pub returns : goal.returns
returns c = guarded_item
