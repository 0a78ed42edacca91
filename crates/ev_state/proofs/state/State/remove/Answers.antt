use Rattle.std.proofs.Common.{sym, ap, ◌∙◌}
use Rattle.ev_warming.specs.Changes.{is_over}
use Rattle.ev_state.proofs.GoneLemmas.{one-goes, one-gone, nothing-goes, nothing-gone}
use Rattle.ev_state.proofs.TellLemmas.{left-changed}
use Rattle.ev_state.proofs.state.State.remove.Goals as goal

pub returns-then-has_ended-clause-at : goal.returns-then-has_ended-clause-at
returns-then-has_ended-clause-at c = λ world at.
    one-goes c.args.self.now c.remove.new.self c.args.number world at
    (ap is_over (sym c.get.ensures) ∙ sym c.has_ended.ensures ∙ c.if-has_ended.true)
    c.remove.ensures.kept c.remove.ensures.forgotten (c.remove.ensures.stands world at.follows.stands.managers)

pub returns-then-has_ended-clause-row : goal.returns-then-has_ended-clause-row
returns-then-has_ended-clause-row c = λ world at.
    one-gone c.args.self.now c.args.number c.remove.result world at c.remove.ensures.row
    (ap is_over (sym c.get.ensures) ∙ sym c.has_ended.ensures ∙ c.if-has_ended.true)

pub returns-then-has_ended-clause-shown : goal.returns-then-has_ended-clause-shown
returns-then-has_ended-clause-shown c = λ world at. left-changed c.args.number world at.follows.sound

pub returns-clause-at : goal.returns-clause-at
returns-clause-at c = λ world at.
    nothing-goes c.args.self.now c.args.number world at (ap is_over (sym c.get.ensures) ∙ sym c.has_ended.ensures ∙ c.if-has_ended.false)

pub returns-clause-row : goal.returns-clause-row
returns-clause-row c = λ world at.
    nothing-gone c.args.self.now c.args.number world at (ap is_over (sym c.get.ensures) ∙ sym c.has_ended.ensures ∙ c.if-has_ended.false)

pub returns-clause-shown : goal.returns-clause-shown
returns-clause-shown c = λ world at. left-changed c.args.number world at.follows.sound
