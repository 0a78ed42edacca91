use Rattle.std.proofs.Common.{◌≡◌, ◌++◌, filter_map, take}
use Rattle.ev_tls.specs.Told.{item_told}
use Rattle.ev_tls.proofs.told.push_items.Given as goal

abbrev pub invariant-loop-item : goal.invariant-loop-item
invariant-loop-item l = l.names.items ≡ l.initial.names.items ++ filter_map item_told (take l.item-index l.items)
