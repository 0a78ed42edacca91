use Rattle.ev_dump.proofs.PrefixLemmas.{by_prefix}
use Rattle.ev_dump.proofs.laws.dumps_by_prefix.Goals as goal

pub returns : goal.returns
returns c = by_prefix
