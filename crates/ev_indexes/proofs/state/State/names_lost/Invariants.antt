use Rattle.std.proofs.Common.{◌≡◌, take}
use Rattle.std.specs.List.{flat_map}
use Rattle.ev_indexes.specs.Moved.{needs_lost}
use Rattle.ev_indexes.proofs.state.State.names_lost.Given as goal

abbrev pub invariant-loop-number : goal.invariant-loop-number
invariant-loop-number l = l.names.items ≡ flat_map (needs_lost l.kind l.made l.self.table.rows) (take l.number-index l.retired)
