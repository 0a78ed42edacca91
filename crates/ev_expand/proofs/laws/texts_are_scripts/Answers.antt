use Rattle.ev_expand.proofs.ScriptLemmas.{text_is_script}
use Rattle.ev_expand.proofs.laws.texts_are_scripts.Goals as goal

pub returns : goal.returns
returns c = text_is_script
