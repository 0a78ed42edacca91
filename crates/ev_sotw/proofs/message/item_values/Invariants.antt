use Rattle.std.proofs.Common.{◌≡◌, map, take}
use Rattle.serde_json.specs.View.{view}
use Rattle.ev_sotw.specs.Delta.{item_tree}
use Rattle.ev_sotw.proofs.message.item_values.Given as goal

abbrev pub invariant-loop-resource : goal.invariant-loop-resource
invariant-loop-resource l = map view l.items.items ≡ map (item_tree l.kind l.version) (map view (take l.resource-index l.resources))
