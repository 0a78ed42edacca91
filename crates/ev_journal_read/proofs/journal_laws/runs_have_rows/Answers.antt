use Rattle.ev_journal_read.proofs.RowLemmas.{have_rows}
use Rattle.ev_journal_read.proofs.journal_laws.runs_have_rows.Goals as goal

pub returns : goal.returns
returns c = have_rows
