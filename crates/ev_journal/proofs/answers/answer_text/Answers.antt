use Rattle.std.proofs.Common.{OnOk, subst, sym, ◌∙◌}
use Rattle.ev_types.specs.declared.events.Answer.{Answer}
use Rattle.ev_types.specs.declared.events.Answer.TheVariants.{Moved, Replied}
use Rattle.ev_journal.specs.Rows.{IsAnswer}
use Rattle.ev_journal.proofs.answers.answer_text.Goals as goal

pub returns-in-Moved-clause-bounded : goal.returns-in-Moved-clause-bounded
returns-in-Moved-clause-bounded c =
    subst (λ (answer : Answer). OnOk c.moved_text.result (IsAnswer answer)) ((λ i. Moved (c.as_slice.ensures.elements i)) ∙ sym c.in-Moved.is)
    c.moved_text.ensures.bounded

pub returns-in-Replied-clause-bounded : goal.returns-in-Replied-clause-bounded
returns-in-Replied-clause-bounded c =
    subst (λ (answer : Answer). OnOk c.replied_text.result (IsAnswer answer))
    ((λ i. Replied (c.as_slice-in-Replied.ensures.elements i) (c.as_slice-in-Replied-2.ensures.elements i)) ∙ sym c.in-Replied.is)
    c.replied_text.ensures.bounded
