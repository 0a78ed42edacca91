use Rattle.std.proofs.Common.{◌≡◌, map, take}
use Rattle.serde_json.specs.View.{view}
use Rattle.ev_tree.specs.Broken.{any_broken}
use Rattle.ev_listener_json.specs.CidrRanges.{cidr_range_of, cidr_range_broken}
use Rattle.ev_listener_json.proofs.cidr_ranges.inspect_ranges.Given as goal

abbrev pub invariant-loop-range : goal.invariant-loop-range
invariant-loop-range l =
    let seen = map view (take l.range-index l.ranges) in
    record {
      values : l.values.items ≡ map cidr_range_of seen;
      broken : l.broken ≡ any_broken cidr_range_broken seen;
    }
