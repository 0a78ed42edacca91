use Rattle.ev_whole_laws.proofs.LineForms.{one_form}
use Rattle.ev_whole_laws.proofs.numbers_have_one_form.Goals as goal

pub returns : goal.returns
returns c = one_form
