use Rattle.std.proofs.Common.{◌≡◌, ◌-◌, ◌≤◌}
use Rattle.std.specs.List.{flat_map}
use Rattle.ev_indexes.specs.Moved.{needs_gained, numbers_after}
use Rattle.ev_indexes.proofs.state.State.names_gained.Given as goal

-- what was gathered so far, and that nothing is to be where no number was allocated since
abbrev pub invariant-loop-number : goal.invariant-loop-number
invariant-loop-number l =
    (l.names.items ≡ flat_map (needs_gained l.kind l.made l.self.table.rows) (numbers_after l.made (l.number - l.made)))
    × (l.self.table.made ≤ l.made → l.number ≡ l.made)
