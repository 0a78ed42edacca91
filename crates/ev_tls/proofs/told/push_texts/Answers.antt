use Rattle.std.proofs.Common.{ℕ, ap, ◌∙◌, option_to_list, ◌++◌, List, Option}
use Rattle.ev_cluster_json.specs.Made.{name_in}
use Rattle.ev_tls.proofs.PushLemmas.{given_next}
use Rattle.ev_tls.proofs.told.push_texts.Goals as goal

pub loop-text-preserved : goal.loop-text-preserved
loop-text-preserved c =
    given_next name_in c.args.texts.now c.loop-text.text-index c.text-item.result _ c.loop-text.names.items _ c.loop-text-test.true c.text-item.is c.loop-text.invariant
    (c.in_ok-push_name.ensures ∙ ap (λ (o : Option (List ℕ)). c.loop-text.names.items ++ option_to_list o) (c.in_ok-make_name.ensures ∙ ap name_in c.as_str.ensures.bytes))
