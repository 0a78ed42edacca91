use Rattle.std.proofs.Common.{◌≡◌, map, take}
use Rattle.serde_json.specs.View.{view}
use Rattle.ev_tree.specs.Broken.{any_broken}
use Rattle.ev_chains.specs.Listeners.{chain_of, one_broken}
use Rattle.ev_chains.proofs.listeners.inspect_chains.Given as goal

abbrev pub invariant-loop-element : goal.invariant-loop-element
invariant-loop-element l =
    let seen = map view (take l.element-index l.elements) in
    record {
      value : l.chains.items ≡ map (chain_of l.listening) seen;
      broken : l.broken ≡ any_broken one_broken seen;
    }
