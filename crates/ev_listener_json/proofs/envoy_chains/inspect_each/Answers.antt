use Rattle.serde_json.specs.View.{view}
use Rattle.ev_tree.proofs.Unions.{made_more, broken_more, broken_all}
use Rattle.ev_listener_json.specs.Chains.{envoy_chain_of, envoy_chain_broken}
use Rattle.ev_listener_json.proofs.envoy_chains.inspect_each.Goals as goal

pub loop-chain-preserved : goal.loop-chain-preserved
loop-chain-preserved c = record {
  values = made_more view envoy_chain_of c.args.chains.now c.loop-chain.chain-index c.chain-item.result c.in_ok-found.found.value c.loop-chain.values.items c.push.new.self.items c.loop-chain-test.true c.chain-item.is c.loop-chain.invariant.values c.in_ok-found.ensures.value c.in_ok-push.ensures.items;
  broken = broken_more view envoy_chain_broken c.args.chains.now c.loop-chain.chain-index c.chain-item.result c.loop-chain.broken c.in_ok-found.found.broken c.or-broken.result c.loop-chain-test.true c.chain-item.is c.loop-chain.invariant.broken c.in_ok-found.ensures.broken c.or-broken.ensures;
}

pub returns-clause-broken : goal.returns-clause-broken
returns-clause-broken c = broken_all view envoy_chain_broken c.args.chains.now c.loop-chain.chain-index c.loop-chain.broken c.loop-chain-test.false c.loop-chain.invariant.broken
