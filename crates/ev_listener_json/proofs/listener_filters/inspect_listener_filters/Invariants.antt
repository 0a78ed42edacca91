use Rattle.std.proofs.Common.{◌≡◌, map, take}
use Rattle.std.specs.List.{list_any}
use Rattle.serde_json.specs.View.{view}
use Rattle.ev_tree.specs.Broken.{any_broken}
use Rattle.ev_listener_json.specs.ListenerFilters.{is_original_dst, listener_filter_broken}
use Rattle.ev_listener_json.proofs.listener_filters.inspect_listener_filters.Given as goal

abbrev pub invariant-loop-filter : goal.invariant-loop-filter
invariant-loop-filter l =
    record {
      restores : l.restores ≡ list_any (λ v. is_original_dst (view v)) (take l.filter-index l.filters);
      broken : l.broken ≡ any_broken listener_filter_broken (map view (take l.filter-index l.filters));
    }
