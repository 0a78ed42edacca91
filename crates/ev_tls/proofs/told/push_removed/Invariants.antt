use Rattle.std.proofs.Common.{◌≡◌, ◌++◌, map, filter_map, take}
use Rattle.serde_json.specs.View.{view}
use Rattle.ev_tls.specs.Told.{removed_name}
use Rattle.ev_tls.proofs.told.push_removed.Given as goal

abbrev pub invariant-loop-name : goal.invariant-loop-name
invariant-loop-name l = l.names.items ≡ l.initial.names.items ++ filter_map removed_name (map view (take l.name-index l.removed))
