use Rattle.std.proofs.Common.{◌≡◌, ◌++◌, take}
use Rattle.ev_state.specs.Changed.{dependents_of}
use Rattle.ev_state.proofs.state.State.put_all_dependents.Given as goal

abbrev pub invariant-loop-item : goal.invariant-loop-item
invariant-loop-item l =
    l.changed ≡ l.initial.changed ++ dependents_of l.self.managers.core.state l.kind (take l.item-index l.item-items)
