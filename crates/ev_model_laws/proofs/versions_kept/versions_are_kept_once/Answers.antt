use Rattle.ev_model_laws.proofs.VersionLemmas.{keeps_versions}
use Rattle.ev_model_laws.proofs.versions_kept.versions_are_kept_once.Goals as goal

pub returns : goal.returns
returns c = keeps_versions
