use Rattle.std.proofs.Common.{◌≡◌, map, take}
use Rattle.serde_json.specs.View.{view}
use Rattle.ev_tree.specs.Broken.{any_broken}
use Rattle.ev_listener_json.specs.Parts.{first_of}
use Rattle.ev_listener_json.specs.Filters.{chain_serve, chain_broken}
use Rattle.ev_listener_json.proofs.chains.inspect_chains.Given as goal

abbrev pub invariant-loop-chain : goal.invariant-loop-chain
invariant-loop-chain l =
    let seen = map view (take l.chain-index l.chains) in
    record {
      serve : l.serve ≡ first_of (map chain_serve seen);
      broken : l.broken ≡ any_broken chain_broken seen;
    }
