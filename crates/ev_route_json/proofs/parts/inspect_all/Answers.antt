use Rattle.serde_json.specs.View.{view}
use Rattle.ev_tree.proofs.Unions.{made_more, broken_more, broken_all}
use Rattle.ev_route_json.proofs.parts.inspect_all.Goals as goal

pub loop-tree-preserved : goal.loop-tree-preserved
loop-tree-preserved g c = record {
  values = made_more view (g.T.Inspect.value_of c.args.mode) c.args.trees.now c.loop-tree.tree-index c.tree-item.result c.in_ok-found.found.value c.loop-tree.values.items c.push.new.self.items c.loop-tree-test.true c.tree-item.is c.loop-tree.invariant.values c.in_ok-found.ensures.value c.in_ok-push.ensures.items;
  broken = broken_more view (g.T.Inspect.broken_of c.args.mode) c.args.trees.now c.loop-tree.tree-index c.tree-item.result c.loop-tree.broken c.in_ok-found.found.broken c.or-broken.result c.loop-tree-test.true c.tree-item.is c.loop-tree.invariant.broken c.in_ok-found.ensures.broken c.or-broken.ensures;
}

pub returns-clause-broken : goal.returns-clause-broken
returns-clause-broken g c = broken_all view (g.T.Inspect.broken_of c.args.mode) c.args.trees.now c.loop-tree.tree-index c.loop-tree.broken c.loop-tree-test.false c.loop-tree.invariant.broken
