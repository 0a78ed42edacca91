use Rattle.ev_retirement.proofs.lines.take_close.Goals as goal

pub returns-in_err-close_one-clause-found : goal.returns-in_err-close_one-clause-found
returns-in_err-close_one-clause-found c found = c.close_one.ensures.found c.args.last.now.shown found

pub returns-clause-found : goal.returns-clause-found
returns-clause-found c found = c.close_one.ensures.found c.args.last.now.shown found
