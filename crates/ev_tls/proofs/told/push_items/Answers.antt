use Rattle.std.proofs.Common.{ℕ, ap, ◌∙◌, option_to_list, ◌++◌, List, Option}
use Rattle.ev_tls.specs.Told.{item_told}
use Rattle.ev_tls.proofs.PushLemmas.{given_next}
use Rattle.ev_tls.proofs.told.push_items.Goals as goal

pub loop-item-preserved : goal.loop-item-preserved
loop-item-preserved c =
    given_next item_told c.args.items.now c.loop-item.item-index c.item-item.result _ c.loop-item.names.items _ c.loop-item-test.true c.item-item.is c.loop-item.invariant
    (c.in_ok-push_name.ensures ∙ ap (λ (o : Option (List ℕ)). c.loop-item.names.items ++ option_to_list o) c.in_ok-name_told.ensures)
