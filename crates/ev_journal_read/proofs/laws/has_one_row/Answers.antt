use Rattle.ev_journal_read.proofs.TextLemmas.{one_row}
use Rattle.ev_journal_read.proofs.laws.has_one_row.Goals as goal

pub returns : goal.returns
returns c = one_row
