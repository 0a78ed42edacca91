use Rattle.serde_json.specs.View.{view}
use Rattle.ev_tree.proofs.Unions.{made_more, broken_more, broken_all}
use Rattle.ev_listener_json.specs.CidrRanges.{cidr_range_of, cidr_range_broken}
use Rattle.ev_listener_json.proofs.cidr_ranges.inspect_ranges.Goals as goal

pub loop-range-preserved : goal.loop-range-preserved
loop-range-preserved c = record {
  values = made_more view cidr_range_of c.args.ranges.now c.loop-range.range-index c.range-item.result c.in_ok-found.found.value c.loop-range.values.items c.push.new.self.items c.loop-range-test.true c.range-item.is c.loop-range.invariant.values c.in_ok-found.ensures.value c.in_ok-push.ensures.items;
  broken = broken_more view cidr_range_broken c.args.ranges.now c.loop-range.range-index c.range-item.result c.loop-range.broken c.in_ok-found.found.broken c.or-broken.result c.loop-range-test.true c.range-item.is c.loop-range.invariant.broken c.in_ok-found.ensures.broken c.or-broken.ensures;
}

pub returns-clause-broken : goal.returns-clause-broken
returns-clause-broken c = broken_all view cidr_range_broken c.args.ranges.now c.loop-range.range-index c.loop-range.broken c.loop-range-test.false c.loop-range.invariant.broken
