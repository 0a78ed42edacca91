use Rattle.ev_journal_read.proofs.TextLemmas.{as_written}
use Rattle.ev_journal_read.proofs.laws.reads_as_written.Goals as goal

pub returns : goal.returns
returns c = as_written
