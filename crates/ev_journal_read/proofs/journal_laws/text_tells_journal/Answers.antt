use Rattle.ev_journal_read.proofs.JournalTextLemmas.{tells}
use Rattle.ev_journal_read.proofs.journal_laws.text_tells_journal.Goals as goal

pub returns : goal.returns
returns c = tells
