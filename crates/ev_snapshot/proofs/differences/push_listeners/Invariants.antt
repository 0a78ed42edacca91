use Rattle.std.proofs.Common.{◌≡◌, ◌++◌, take}
use Rattle.std.specs.List.{flat_map}
use Rattle.ev_snapshot.specs.Touched.{listener_touches}
use Rattle.ev_snapshot.proofs.differences.push_listeners.Given as goal

abbrev pub invariant-loop-change : goal.invariant-loop-change
invariant-loop-change l = l.numbers.items ≡ l.initial.numbers.items ++ flat_map (listener_touches l.before) (take l.change-index l.changes)
