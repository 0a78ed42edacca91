use Rattle.ev_ledger.specs.Members.{member_on}
use Rattle.ev_retirement.proofs.FoundLemmas.{found_more, open_found}
use Rattle.ev_retirement.proofs.LineLemmas.{open_kept}
use Rattle.ev_retirement.proofs.lines.open_on.Goals as goal

pub returns-clause-kept : goal.returns-clause-kept
returns-clause-kept c =
    open_kept c.open.result (member_on c.args.worker c.args.conn c.in-Some.on) c.args.ledger.now c.open.new.self c.open.ensures.opened c.open.ensures.err

pub returns-in_default-enter_where_due-clause-found : goal.returns-in_default-enter_where_due-clause-found
returns-in_default-enter_where_due-clause-found c found =
    found_more c.args.closing.now c.enter_where_due.new.closing c.args.drain.now c.args.drain.now c.args.last.now.shown c.args.ledger.now c.enter_where_due.ensures.more (λ n h. h) found

pub returns-clause-found : goal.returns-clause-found
returns-clause-found c found =
    open_found c.open.result c.args.closing.now c.enter_where_due.new.closing c.args.drain.now c.args.last.now.shown (member_on c.args.worker c.args.conn c.in-Some.on) c.args.ledger.now
    c.open.new.self c.enter_where_due.ensures.more c.in-Ok.ensures.entered c.open.ensures.opened c.open.ensures.err found
