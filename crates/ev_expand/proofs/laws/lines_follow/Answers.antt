use Rattle.ev_expand.proofs.ReadLemmas as read
use Rattle.ev_expand.proofs.laws.lines_follow.Goals as goal

pub returns : goal.returns
returns c = read.lines_follow
