use Rattle.std.proofs.Common.{◌∙◌}
use Rattle.ev_tree.specs.Broken.{either_broken}
use Rattle.ev_listener_json.specs.Chains.{served_broken, chain_with}
use Rattle.ev_listener_json.proofs.envoy_chains.inspect_with.Goals as goal

pub returns-clause-value : goal.returns-clause-value
unfolding chain_with
returns-clause-value c = λ i. record {
  criteria = c.in_ok-criteria.ensures.value i;
  serve = c.in_ok-served.ensures.value i;
  secrets = (c.in_ok-secrets.ensures i).list;
  extensions = (c.in_ok-extensions.ensures i).list;
  body_text = c.in_ok-body_text.ensures i;
}

pub returns-clause-broken : goal.returns-clause-broken
unfolding served_broken
returns-clause-broken c =
    c.or-2.ensures ∙ (λ i. either_broken (c.in_ok-served.ensures.broken i)
    ((c.or.ensures ∙ (λ j. either_broken (c.in_ok-secrets.ensures j).broken (c.in_ok-extensions.ensures j).broken)) i))
