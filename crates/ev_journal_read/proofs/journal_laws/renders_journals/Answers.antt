use Rattle.ev_journal_read.proofs.JournalTextLemmas.{renders}
use Rattle.ev_journal_read.proofs.journal_laws.renders_journals.Goals as goal

pub returns : goal.returns
returns c = renders
