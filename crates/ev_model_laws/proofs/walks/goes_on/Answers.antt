use Rattle.ev_model_laws.proofs.NextLemmas.{journal_more}
use Rattle.ev_model_laws.proofs.walks.goes_on.Goals as goal

pub returns : goal.returns
returns c = journal_more
