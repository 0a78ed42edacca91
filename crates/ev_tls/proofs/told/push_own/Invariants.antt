use Rattle.std.proofs.Common.{◌≡◌, ◌++◌, map, filter_map, take}
use Rattle.serde_json.specs.View.{view}
use Rattle.ev_tls.specs.References.{own_name}
use Rattle.ev_tls.proofs.told.push_own.Given as goal

abbrev pub invariant-loop-resource : goal.invariant-loop-resource
invariant-loop-resource l = l.names.items ≡ l.initial.names.items ++ filter_map own_name (map view (take l.resource-index l.resources))
