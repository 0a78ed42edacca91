use Rattle.std.proofs.Common.{◌≡◌, map, take}
use Rattle.serde_json.specs.View.{view}
use Rattle.ev_tree.specs.Broken.{any_broken}
use Rattle.ev_listener_json.specs.Parts.{first_of}
use Rattle.ev_listener_json.specs.Filters.{filter_serves, filter_serve, filter_broken}
use Rattle.ev_listener_json.proofs.filters.inspect_filters.Given as goal

abbrev pub invariant-loop-filter : goal.invariant-loop-filter
invariant-loop-filter l =
    let seen = map view (take l.filter-index l.filters) in
    record {
      serving : l.serving.items ≡ map (filter_serves l.profile) seen;
      serve : l.serve ≡ first_of (map (filter_serve l.profile) seen);
      broken : l.broken ≡ any_broken (filter_broken l.profile) seen;
    }
