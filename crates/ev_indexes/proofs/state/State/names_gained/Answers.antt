use Rattle.std.proofs.Common.{◌≤◌, ◌++◌, ◌∙◌, sym, ap, subst, refl, arith}
use Rattle.ev_model.specs.Watching.{sorted_names}
use Rattle.ev_indexes.specs.Moved.{needs_gained}
use Rattle.ev_indexes.proofs.MovedLemmas.{after-none, after-more, after-all}
use Rattle.ev_indexes.proofs.state.State.names_gained.Goals as goal

pub loop-number-init : goal.loop-number-init
loop-number-init c = (c.new-names.ensures.items ∙ after-none (needs_gained c.args.kind c.args.made c.args.self.now.table.rows) c.args.made, λ low. refl)

pub loop-number-preserved : goal.loop-number-preserved
loop-number-preserved c = (
  c.in_ok-push_gained.ensures
      ∙ (λ i. c.loop-number.invariant.0 i ++ needs_gained c.args.kind c.args.made c.args.self.now.table.rows (c.new.ensures.number i))
      ∙ after-more (needs_gained c.args.kind c.args.made c.args.self.now.table.rows) c.args.made c.loop-number.number c.loop-number.auto.number,
  λ low. absurd (omega (arith, c.loop-number-test.true, c.made-number-end.ensures, c.loop-number.auto.number)),
)

pub returns : goal.returns
returns c =
    let drawn = c.args.self.now.table.made in
    c.from_vec.ensures.elements ∙ c.sort.ensures
    ∙ ap sorted_names (c.loop-number.invariant.0
    ∙ after-all (needs_gained c.args.kind c.args.made c.args.self.now.table.rows) c.args.made drawn c.loop-number.number
    (subst (λ n. n ≤ c.loop-number.number) c.made-number-end.ensures c.loop-number-test.false)
    (λ low. subst (λ n. c.loop-number.number ≤ n) c.made-number-end.ensures (c.loop-number.auto.number-end (subst (λ n. c.args.made ≤ n) (sym c.made-number-end.ensures) low)))
    c.loop-number.invariant.1)
