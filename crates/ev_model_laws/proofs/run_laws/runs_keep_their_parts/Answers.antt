use Rattle.ev_model_laws.proofs.RunParts.{parts_kept}
use Rattle.ev_model_laws.proofs.run_laws.runs_keep_their_parts.Goals as goal

pub returns : goal.returns
returns c = λ told run. parts_kept told run.answers
