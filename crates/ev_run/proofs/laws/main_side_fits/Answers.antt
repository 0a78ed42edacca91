use Rattle.ev_run.proofs.BeginLemmas.{acting_ended, acts_on, begins_acting, next_act}
use Rattle.ev_run.proofs.laws.main_side_fits.Goals as goal

pub returns-clause-begins : goal.returns-clause-begins
returns-clause-begins c = begins_acting

pub returns-clause-next : goal.returns-clause-next
returns-clause-next c = next_act

pub returns-clause-goes_on : goal.returns-clause-goes_on
returns-clause-goes_on c = acts_on

pub returns-clause-ends : goal.returns-clause-ends
returns-clause-ends c = acting_ended
