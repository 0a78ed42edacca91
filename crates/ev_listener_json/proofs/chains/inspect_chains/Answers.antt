use Rattle.serde_json.specs.View.{view}
use Rattle.ev_tree.proofs.Unions.{broken_more, broken_all}
use Rattle.ev_listener_json.specs.Filters.{chain_serve, chain_broken}
use Rattle.ev_listener_json.proofs.Unions.{serve_more, serve_all}
use Rattle.ev_listener_json.proofs.chains.inspect_chains.Goals as goal

pub loop-chain-preserved : goal.loop-chain-preserved
loop-chain-preserved c = record {
  serve = serve_more view chain_serve c.args.chains.now c.loop-chain.chain-index c.chain-item.result c.loop-chain.serve c.in_ok-found.found.value c.or-serve.result c.loop-chain-test.true c.chain-item.is c.loop-chain.invariant.serve c.in_ok-found.ensures.value c.or-serve.ensures;
  broken = broken_more view chain_broken c.args.chains.now c.loop-chain.chain-index c.chain-item.result c.loop-chain.broken c.in_ok-found.found.broken c.or-broken.result c.loop-chain-test.true c.chain-item.is c.loop-chain.invariant.broken c.in_ok-found.ensures.broken c.or-broken.ensures;
}

pub returns-clause-value : goal.returns-clause-value
returns-clause-value c = serve_all view chain_serve c.args.chains.now c.loop-chain.chain-index c.loop-chain.serve c.loop-chain-test.false c.loop-chain.invariant.serve

pub returns-clause-broken : goal.returns-clause-broken
returns-clause-broken c = broken_all view chain_broken c.args.chains.now c.loop-chain.chain-index c.loop-chain.broken c.loop-chain-test.false c.loop-chain.invariant.broken
