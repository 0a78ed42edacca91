use Rattle.std.proofs.Common.{◌≡◌, ◌<◌, ℕ, ◌+◌, ◌++◌, ◌∷◌, [], List, length, take, sym, ap, ◌∙◌, subst, arith}
use Rattle.std.specs.Prelude.{option_to_list}
use Rattle.std.proofs.lemmas.List.{append_assoc, take_more}
use Rattle.ev_types.specs.declared.rows.GenRow.{GenRow}
use Rattle.ev_model.specs.World.{World}
use Rattle.ev_state.specs.States.{ManagesAt, over_in}
use Rattle.ev_proxy.specs.Proxies.{rows_gone, without_each}
use Rattle.ev_proxy.proofs.ReapedLemmas.{rows_more}
use Rattle.ev_proxy.proofs.ReapingLemmas.{each_more}
use Rattle.ev_proxy.proofs.noting.remove_each.Goals as goal

pub loop-number-preserved : goal.loop-number-preserved
loop-number-preserved c =
    let numbers : List ℕ = c.args.numbers.now in
    let at : ℕ = c.loop-number.number-index in
    let number : ℕ = c.number-item.result in
    let below : at < length numbers = omega arith in
    let reached : World → World = λ world. record world { rows = without_each (take at numbers) world.rows } in
    let next : take at numbers ++ number ∷ [] ≡ take (at + 1) numbers =
    ap (λ (n : ℕ). take at numbers ++ n ∷ []) c.number-item.is ∙ sym (take_more numbers at number below) in (
      c.remove.ensures.kept,
      c.remove.ensures.forgotten,
      omega (arith, c.defer.ensures.room, c.loop-number.invariant.2),
      λ world stands.
          subst (λ (rows : List GenRow). ManagesAt c.remove.new.self (record world { rows = rows }))
          (each_more (take at numbers) number world.rows ∙ ap (λ (ns : List ℕ). without_each ns world.rows) next)
          (c.remove.ensures.at (reached world) (c.loop-number.invariant.3 world stands)),
      λ world stands.
          let before : List GenRow = rows_gone (take at numbers) world.rows in
          c.defer.ensures.rows
          ∙ (λ i. c.loop-number.invariant.4 world stands i ++ option_to_list (c.remove.ensures.row (reached world) (c.loop-number.invariant.3 world stands) i))
          ∙ append_assoc c.args.deferred.now.0 before (option_to_list (over_in number (reached world).rows))
          ∙ ap (λ (rows : List GenRow). c.args.deferred.now.0 ++ rows) (rows_more (take at numbers) number world.rows ∙ ap (λ (ns : List ℕ). rows_gone ns world.rows) next),
    )
