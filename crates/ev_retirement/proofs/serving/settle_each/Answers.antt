use Rattle.ev_retirement.proofs.serving.settle_each.Goals as goal

pub returns-in_err-close_each-clause-found : goal.returns-in_err-close_each-clause-found
returns-in_err-close_each-clause-found c found = c.close_each.ensures.found c.args.last.now.shown found

pub returns-in_err-move_each-clause-found : goal.returns-in_err-move_each-clause-found
returns-in_err-move_each-clause-found c found = c.move_each.ensures.found (c.close_each.ensures.found c.args.last.now.shown found)

pub returns-clause-found : goal.returns-clause-found
returns-clause-found c found = c.leave_done.ensures (c.move_each.ensures.found (c.close_each.ensures.found c.args.last.now.shown found))
