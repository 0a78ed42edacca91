use Rattle.std.proofs.Common.{◌≡◌, map, take}
use Rattle.std.specs.Map.Iter.{deref}
use Rattle.ev_tree.specs.Forms.{tree_of}
use Rattle.ev_route_json.specs.Presence.{any_given, any_doubled, any_filled}
use Rattle.ev_route_json.proofs.presence.inspect_fields.Given as goal

abbrev pub invariant-loop-name : goal.invariant-loop-name
invariant-loop-name l =
    (l.given ≡ any_given (map deref (take l.name-index l.names)) (tree_of l.object))
    × (l.filled ≡ any_filled (map deref (take l.name-index l.names)) (tree_of l.object))
    × (l.doubled ≡ any_doubled (map deref (take l.name-index l.names)) (tree_of l.object))
