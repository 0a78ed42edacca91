use Rattle.std.proofs.Common.{ℕ, ap, ◌∙◌, option_to_list, ◌++◌, List, Option}
use Rattle.serde_json.specs.View.{view}
use Rattle.ev_tls.specs.References.{own_name}
use Rattle.ev_tls.proofs.PushLemmas.{given_more}
use Rattle.ev_tls.proofs.told.push_own.Goals as goal

pub loop-resource-preserved : goal.loop-resource-preserved
loop-resource-preserved c =
    given_more view own_name c.args.resources.now c.loop-resource.resource-index c.resource-item.result _ c.loop-resource.names.items _ c.loop-resource-test.true c.resource-item.is c.loop-resource.invariant
    (c.in_ok-push_name.ensures ∙ ap (λ (o : Option (List ℕ)). c.loop-resource.names.items ++ option_to_list o) c.in_ok-own_name.ensures)
