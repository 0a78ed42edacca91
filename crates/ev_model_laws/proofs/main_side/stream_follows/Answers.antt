use Rattle.ev_model.specs.World.{opening}
use Rattle.ev_model_laws.proofs.StreamLemmas.{stream_after}
use Rattle.ev_model_laws.proofs.main_side.stream_follows.Goals as goal

pub returns : goal.returns
returns c = λ format workers node entries. stream_after format (opening workers node) entries
