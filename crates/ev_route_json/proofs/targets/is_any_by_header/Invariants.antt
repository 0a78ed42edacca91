use Rattle.std.proofs.Common.{◌≡◌, map, drop}
use Rattle.std.specs.List.{list_any}
use Rattle.serde_json.specs.View.{view}
use Rattle.ev_route_json.specs.Targets.{is_by_header}
use Rattle.ev_route_json.proofs.targets.is_any_by_header.Given as goal

abbrev pub invariant-loop-entry : goal.invariant-loop-entry
invariant-loop-entry l = list_any is_by_header (map view l.entries) ≡ list_any is_by_header (map view (drop l.entry-index l.entries))
