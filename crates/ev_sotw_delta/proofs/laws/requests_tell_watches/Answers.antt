use Rattle.ev_sotw_delta.proofs.WatchLemmas.{tell_watches}
use Rattle.ev_sotw_delta.proofs.laws.requests_tell_watches.Goals as goal

pub returns : goal.returns
returns c = tell_watches
