use Rattle.ev_retirement.proofs.MoreLemmas.{still_in}
use Rattle.ev_retirement.proofs.aside.put.Goals as goal

pub returns-clause-kept : goal.returns-clause-kept
returns-clause-kept c other h = still_in _ _ _ (c.in-Ok.ensures.updates.0 other) h
