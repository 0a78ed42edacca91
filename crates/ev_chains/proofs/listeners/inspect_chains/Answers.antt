use Rattle.std.proofs.Common.{◌∙◌}
use Rattle.serde_json.specs.View.{view}
use Rattle.ev_tree.proofs.Unions.{broken_more, broken_all}
use Rattle.ev_chains.specs.Listeners.{chain_of, one_broken}
use Rattle.ev_chains.proofs.ListLemmas.{maps_more}
use Rattle.ev_chains.proofs.listeners.inspect_chains.Goals as goal

pub loop-element-preserved : goal.loop-element-preserved
loop-element-preserved c = record {
  value = c.in_ok-push.ensures.items ∙ maps_more view (chain_of c.args.listening.now) c.args.elements.now c.loop-element.element-index c.element-item.result c.loop-element.chains.items c.in_ok-found.found.value c.loop-element-test.true c.element-item.is c.loop-element.invariant.value c.in_ok-found.ensures.value;
  broken = broken_more view one_broken c.args.elements.now c.loop-element.element-index c.element-item.result c.loop-element.broken c.in_ok-found.found.broken c.or-broken.result c.loop-element-test.true c.element-item.is c.loop-element.invariant.broken c.in_ok-found.ensures.broken c.or-broken.ensures;
}

pub returns-clause-broken : goal.returns-clause-broken
returns-clause-broken c = broken_all view one_broken c.args.elements.now c.loop-element.element-index c.loop-element.broken c.loop-element-test.false c.loop-element.invariant.broken
