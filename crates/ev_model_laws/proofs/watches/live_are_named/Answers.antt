use Rattle.ev_model_laws.proofs.LiveLemmas.{live_named}
use Rattle.ev_model_laws.proofs.watches.live_are_named.Goals as goal

pub returns : goal.returns
returns c = live_named
