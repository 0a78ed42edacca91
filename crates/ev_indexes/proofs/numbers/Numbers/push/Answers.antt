use Rattle.std.proofs.Common.{◌∙◌, ℕ, Bool, List, ◌-◌, length, slice_get, sym, ap, subst, true≢false}
use Rattle.ev_indexes.specs.Numbers.{AreStored, is_above_other}
use Rattle.ev_indexes.proofs.NumberLemmas.{stored-more}
use Rattle.ev_indexes.proofs.numbers.Numbers.push.Goals as goal
use Rattle.ev_indexes.proofs.numbers.Numbers.push.Goals.{then-self, else-self}

pub invariant_of-self-2 : goal.invariant_of-self-2
invariant_of-self-2 c =
    let gone = c.self.inside.gone in
    let rise = c.self.inside.rise in
    let stored = c.self.inside.numbers.items in
    let above_last : List ℕ → Bool = λ xs. is_above_other c.args.number (slice_get xs (length xs - 1)) in
    subst (AreStored gone c.if-self.rise) (sym c.in_ok-push.ensures.items)
    (elim c.if-self.branch [
      | then-self w ↦
          stored-more c.args.number gone rise c.if-self.rise stored c.self.invariant
          (λ known. (w.if-self.true, sym (ap above_last (w.as_slice.ensures.elements ∙ sym c.self.view_is)) ∙ sym w.is_above_last-rise.ensures ∙ sym w.rise-is ∙ known))
      | else-self w ↦
          stored-more c.args.number gone rise c.if-self.rise stored c.self.invariant
          (λ known. absurd (true≢false (sym known ∙ w.rise-is ∙ w.if-self.false)))
    ])
