use Rattle.std.proofs.Common.{◌≡◌, ◌++◌, map, drop}
use Rattle.serde_json.specs.View.{view}
use Rattle.ev_expand.specs.Placing.{placed_entries}
use Rattle.ev_expand.proofs.guarding.waiting_entries.Given as goal

abbrev pub invariant-loop-index : goal.invariant-loop-index
invariant-loop-index l =
    map view l.made.items ++ placed_entries l.prefix (map view (drop l.index l.entries)) (drop l.index l.places)
    ≡ placed_entries l.prefix (map view l.entries) l.places
