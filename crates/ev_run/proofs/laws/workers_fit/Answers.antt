use Rattle.ev_run.proofs.BeginLemmas.{begins_working, next_work, working_ended, works_on}
use Rattle.ev_run.proofs.WorkLemmas.{commits, joins, leaves_out}
use Rattle.ev_run.proofs.laws.workers_fit.Goals as goal

pub returns-clause-begins : goal.returns-clause-begins
returns-clause-begins c = begins_working

pub returns-clause-next : goal.returns-clause-next
returns-clause-next c = next_work

pub returns-clause-joins : goal.returns-clause-joins
returns-clause-joins c = joins

pub returns-clause-commits : goal.returns-clause-commits
returns-clause-commits c = commits

pub returns-clause-leaves_out : goal.returns-clause-leaves_out
returns-clause-leaves_out c = leaves_out

pub returns-clause-goes_on : goal.returns-clause-goes_on
returns-clause-goes_on c = works_on

pub returns-clause-ends : goal.returns-clause-ends
returns-clause-ends c = working_ended
