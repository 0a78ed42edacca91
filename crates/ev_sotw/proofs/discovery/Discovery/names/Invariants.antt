use Rattle.std.proofs.Common.{◌≡◌, map, take}
use Rattle.serde_json.specs.View.{view}
use Rattle.ev_model.specs.Watching.{sorted_names}
use Rattle.ev_sotw.specs.Discovery.{resource_name}
use Rattle.ev_sotw.proofs.discovery.Discovery.names.Given as goal

abbrev pub invariant-loop-resource : goal.invariant-loop-resource
invariant-loop-resource l = l.names ≡ sorted_names (map (resource_name l.kind) (map view (take l.resource-index l.resource-items)))
