use Rattle.std.proofs.Common.{sym, ◌∙◌}
use Rattle.std.proofs.lemmas.Result.{on_ok_weaker}
use Rattle.ev_retirement.proofs.GoLemmas.{asked_found, asked_none}
use Rattle.ev_retirement.proofs.letting_go.ask_on.Goals as goal

pub returns-in-Some-clause-asked : goal.returns-in-Some-clause-asked
returns-in-Some-clause-asked c =
    on_ok_weaker c.ask_both.result
    (λ asked. asked_found c.args.worker c.args.conn c.ask_both.new.asking c.args.drain.now c.args.ledger.now c.in-Some.on c.on.ensures.apart (sym c.on.ensures.on ∙ c.in-Some.is) asked)
    c.ask_both.ensures.asked

pub returns-in-None-clause-asked : goal.returns-in-None-clause-asked
returns-in-None-clause-asked c = asked_none c.args.worker c.args.conn c.args.asking.now c.args.drain.now c.args.ledger.now (sym c.on.ensures.on ∙ c.in-None.is)
