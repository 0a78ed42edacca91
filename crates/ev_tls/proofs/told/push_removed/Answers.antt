use Rattle.std.proofs.Common.{ℕ, ap, ◌∙◌, option_to_list, ◌++◌, List, Option}
use Rattle.serde_json.specs.View.{view}
use Rattle.ev_tls.specs.Told.{removed_name}
use Rattle.ev_tls.proofs.PushLemmas.{given_more}
use Rattle.ev_tls.proofs.told.push_removed.Goals as goal

pub loop-name-preserved : goal.loop-name-preserved
loop-name-preserved c =
    given_more view removed_name c.args.removed.now c.loop-name.name-index c.name-item.result _ c.loop-name.names.items _ c.loop-name-test.true c.name-item.is c.loop-name.invariant
    (c.in_ok-push_name.ensures ∙ ap (λ (o : Option (List ℕ)). c.loop-name.names.items ++ option_to_list o) c.in_ok-removed_name.ensures)
