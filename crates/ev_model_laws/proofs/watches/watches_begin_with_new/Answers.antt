use Rattle.ev_model_laws.proofs.LiveLemmas.{watches_begin}
use Rattle.ev_model_laws.proofs.watches.watches_begin_with_new.Goals as goal

pub returns : goal.returns
returns c = watches_begin
