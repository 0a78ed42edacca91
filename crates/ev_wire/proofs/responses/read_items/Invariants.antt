use Rattle.std.proofs.Common.{◌≡◌, map, take, drop}
use Rattle.std.specs.List.{list_all}
use Rattle.serde_json.specs.View.{view}
use Rattle.ev_wire.specs.Responses.{is_entry, item_of}
use Rattle.ev_wire.proofs.responses.read_items.Given as goal

abbrev pub invariant-loop-entry : goal.invariant-loop-entry
invariant-loop-entry l =
    (l.items.items ≡ map (item_of l.profile l.kind) (map view (take l.entry-index l.entries)))
    × (list_all is_entry (map view (drop l.entry-index l.entries)) ≡ list_all is_entry (map view l.entries))
