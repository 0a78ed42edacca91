use Rattle.std.proofs.Common.{◌∙◌, ap, is_some}
use Rattle.serde_json.specs.View.{view}
use Rattle.ev_tree.proofs.Unions.{made_more, broken_more, broken_all}
use Rattle.ev_listener_json.specs.Filters.{filter_serves, filter_serve, filter_broken}
use Rattle.ev_listener_json.proofs.Unions.{serve_more, serve_all}
use Rattle.ev_listener_json.proofs.filters.inspect_filters.Goals as goal

pub loop-filter-preserved : goal.loop-filter-preserved
loop-filter-preserved c = record {
  serving = made_more view (filter_serves c.args.profile) c.args.filters.now c.loop-filter.filter-index c.filter-item.result c.is_some.result c.loop-filter.serving.items c.push.new.self.items c.loop-filter-test.true c.filter-item.is c.loop-filter.invariant.serving (c.is_some.ensures ∙ ap is_some c.in_ok-found.ensures.value) c.in_ok-push.ensures.items;
  serve = serve_more view (filter_serve c.args.profile) c.args.filters.now c.loop-filter.filter-index c.filter-item.result c.loop-filter.serve c.in_ok-found.found.value c.or-serve.result c.loop-filter-test.true c.filter-item.is c.loop-filter.invariant.serve c.in_ok-found.ensures.value c.or-serve.ensures;
  broken = broken_more view (filter_broken c.args.profile) c.args.filters.now c.loop-filter.filter-index c.filter-item.result c.loop-filter.broken c.in_ok-found.found.broken c.or-broken.result c.loop-filter-test.true c.filter-item.is c.loop-filter.invariant.broken c.in_ok-found.ensures.broken c.or-broken.ensures;
}

pub returns-clause-serve : goal.returns-clause-serve
returns-clause-serve c = serve_all view (filter_serve c.args.profile) c.args.filters.now c.loop-filter.filter-index c.loop-filter.serve c.loop-filter-test.false c.loop-filter.invariant.serve

pub returns-clause-broken : goal.returns-clause-broken
returns-clause-broken c = broken_all view (filter_broken c.args.profile) c.args.filters.now c.loop-filter.filter-index c.loop-filter.broken c.loop-filter-test.false c.loop-filter.invariant.broken
