use Rattle.ev_journal_read.proofs.TextLemmas.{one_to_one}
use Rattle.ev_journal_read.proofs.laws.writes_one_to_one.Goals as goal

pub returns : goal.returns
returns c = one_to_one
