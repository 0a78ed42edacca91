use Rattle.std.proofs.Common.{◌≡◌, map, take}
use Rattle.serde_json.specs.View.{view}
use Rattle.ev_tree.specs.Broken.{any_broken}
use Rattle.ev_route_json.proofs.parts.inspect_all.Given as goal

abbrev pub invariant-loop-tree : goal.invariant-loop-tree
invariant-loop-tree g l =
    let seen = map view (take l.tree-index l.trees) in
    record {
      values : l.values.items ≡ map (g.T.Inspect.value_of l.mode) seen;
      broken : l.broken ≡ any_broken (g.T.Inspect.broken_of l.mode) seen;
    }
