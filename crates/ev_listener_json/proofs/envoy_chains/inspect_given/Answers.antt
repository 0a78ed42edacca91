use Rattle.std.proofs.Common.{◌∙◌, ◌&&◌, ap, List, map, length, nat_eq, not, sym}
use Rattle.std.proofs.lemmas.List.{length-map}
use Rattle.serde_json.specs.View.{view}
use Rattle.ev_types.specs.FilterChains.{has_collision}
use Rattle.ev_types.specs.declared.listeners.FilterChain.{FilterChain}
use Rattle.ev_tree.specs.Forms.{listed}
use Rattle.ev_tree.specs.Broken.{either_broken, any_broken}
use Rattle.ev_tree.proofs.Outcomes.{or_same, and_same, not_same}
use Rattle.ev_listener_json.specs.Chains.{envoy_chain_of, envoy_chain_broken, chains_of, default_chain, default_broken, given_default_of, given_chains_broken}
use Rattle.ev_listener_json.proofs.envoy_chains.inspect_given.Goals as goal

pub returns-clause-chains : goal.returns-clause-chains
unfolding chains_of
returns-clause-chains c = c.in_ok-below.ensures.value ∙ ap (map envoy_chain_of) (c.elements-elements.ensures ∙ ap listed c.in_ok-chains.ensures.value)

pub returns-clause-default : goal.returns-clause-default
unfolding given_default_of
returns-clause-default c = c.in_ok-last.ensures.value ∙ ap default_chain c.in_ok-default.ensures.value

pub returns-clause-broken : goal.returns-clause-broken
unfolding chains_of given_chains_broken
returns-clause-broken c =
    let chains = c.elements-elements.ensures ∙ ap listed c.in_ok-chains.ensures.value in
    let below = c.in_ok-below.ensures.broken ∙ ap (any_broken envoy_chain_broken) chains in
    let last = c.in_ok-last.ensures.broken ∙ ap default_broken c.in_ok-default.ensures.value in
    let values = c.as_slice.ensures.value ∙ c.in_ok-below.ensures.value ∙ ap (map envoy_chain_of) chains in
    c.or-2.ensures ∙ (λ i. either_broken (below i) ((c.or.ensures ∙ (λ j. either_broken (last j) (record (c.none.ensures j) {
      v6 = or_same (c.is_wrong.ensures ∙ c.in_ok-chains.ensures.wrong) (c.is_wrong-2.ensures ∙ c.in_ok-default.ensures.wrong) j;
      v16 = and_same
          (c.is_empty.ensures ∙ ap (λ n. nat_eq n 0) (sym (length-map c.elements-elements.result.now view) ∙ ap length chains))
          (not_same (c.is_given.ensures ∙ c.in_ok-default.ensures.given)) j && not c.args.udp;
      v26 = (c.in_ok-has_collision.ensures ∙ ap (λ (cs : List FilterChain). has_collision (map (λ (chain : FilterChain). chain.criteria) cs)) values) j;
    }))) i))
