use Rattle.std.proofs.Common.{◌∙◌, ap}
use Rattle.serde_json.specs.View.{view}
use Rattle.ev_tree.specs.Forms.{inside}
use Rattle.ev_tree.specs.Broken.{either_broken}
use Rattle.ev_listener_json.specs.ChainMatches.{filter_chain_match_of, filter_chain_match_broken}
use Rattle.ev_listener_json.specs.Chains.{chain_match_of, chain_with, envoy_chain_of, envoy_chain_broken}
use Rattle.ev_listener_json.proofs.envoy_chains.inspect_envoy_chain.Goals as goal

pub returns-clause-value : goal.returns-clause-value
unfolding chain_match_of envoy_chain_of
returns-clause-value c =
    let matched = c.inner.ensures ∙ ap inside c.in_ok-matched.ensures.value in
    c.in_ok-below.ensures.value ∙ ap (λ m. chain_with m (view c.args.chain.now)) (c.in_ok-criteria.ensures.value ∙ ap filter_chain_match_of matched)

pub returns-clause-broken : goal.returns-clause-broken
unfolding chain_match_of envoy_chain_broken
returns-clause-broken c =
    let matched = c.inner.ensures ∙ ap inside c.in_ok-matched.ensures.value in
    let criteria = c.in_ok-criteria.ensures.broken ∙ ap filter_chain_match_broken matched in
    c.or-2.ensures ∙ (λ i. either_broken (c.in_ok-below.ensures.broken i) ((c.or.ensures ∙ (λ j. either_broken (criteria j) (record (c.none.ensures j) {
      v6 = (c.is_wrong.ensures ∙ c.in_ok-matched.ensures.wrong) j;
    }))) i))
