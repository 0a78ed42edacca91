use Rattle.std.proofs.Common.{◌∙◌, ◌++◌, ◌∷◌, [], ◌+◌, ap, sym}
use Rattle.ev_chains.proofs.ListLemmas.{range_up}
use Rattle.ev_chains.proofs.changes.numbers_above.Goals as goal

pub loop-number-preserved : goal.loop-number-preserved
loop-number-preserved c =
    c.in_ok-push.ensures.items ∙ ap (λ l. l ++ (c.loop-number.number + 1) ∷ []) c.loop-number.invariant
    ∙ sym (range_up c.args.low c.loop-number.number c.loop-number.auto.number)
