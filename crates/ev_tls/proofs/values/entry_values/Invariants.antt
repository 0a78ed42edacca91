use Rattle.std.proofs.Common.{◌≡◌, map, filter_map, take}
use Rattle.serde_json.specs.View.{view}
use Rattle.ev_tls.specs.Told.{value_given, value_shown}
use Rattle.ev_tls.proofs.values.entry_values.Given as goal

abbrev pub invariant-loop-index : goal.invariant-loop-index
invariant-loop-index l = map value_shown l.values.items ≡ filter_map (value_given l.profile l.mentions) (map view (take l.index l.entries))
