use Rattle.std.proofs.Common.{sym, ◌∙◌}
use Rattle.std.proofs.lemmas.Bool.{false≢true}
use Rattle.std.proofs.lemmas.Result.{on_ok_weaker}
use Rattle.ev_model.specs.Dead.{is_open_on}
use Rattle.ev_retirement.proofs.AskLemmas.{aside_found, none_counted, none_shown}
use Rattle.ev_retirement.proofs.reaping.set_aside.Goals as goal

pub returns-then-count-ne0-clause-aside : goal.returns-then-count-ne0-clause-aside
returns-then-count-ne0-clause-aside c none shown =
    absurd (c.if-count-ne0.true (c.count.ensures.count ∙ none_counted (is_open_on c.args.number) c.args.ledger.now none))

pub returns-in-Some-clause-aside : goal.returns-in-Some-clause-aside
returns-in-Some-clause-aside c =
    on_ok_weaker c.put_aside.result
    (λ aside none shown. aside_found c.put_aside.new.self c.args.number c.in-Some.version c.args.pictures.now (sym c.shown_in.ensures ∙ c.in-Some.is) aside)
    c.put_aside.ensures.aside

pub returns-in-None-clause-aside : goal.returns-in-None-clause-aside
returns-in-None-clause-aside c none shown =
    absurd (false≢true (sym (none_shown c.args.number c.args.pictures.now (sym c.shown_in.ensures ∙ c.in-None.is)) ∙ shown))
