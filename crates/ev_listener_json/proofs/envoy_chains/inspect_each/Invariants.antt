use Rattle.std.proofs.Common.{◌≡◌, map, take}
use Rattle.serde_json.specs.View.{view}
use Rattle.ev_tree.specs.Broken.{any_broken}
use Rattle.ev_listener_json.specs.Chains.{envoy_chain_of, envoy_chain_broken}
use Rattle.ev_listener_json.proofs.envoy_chains.inspect_each.Given as goal

abbrev pub invariant-loop-chain : goal.invariant-loop-chain
invariant-loop-chain l =
    let seen = map view (take l.chain-index l.chains) in
    record {
      values : l.values.items ≡ map envoy_chain_of seen;
      broken : l.broken ≡ any_broken envoy_chain_broken seen;
    }
