use Rattle.std.proofs.Common.{◌≡◌, ◌++◌, take}
use Rattle.std.specs.List.{flat_map}
use Rattle.ev_snapshot.specs.declared.changes.ListenerChange.{ListenerChange}
use Rattle.ev_snapshot.specs.Touched.{served_begun}
use Rattle.ev_snapshot.proofs.differences.push_all_begun.Given as goal

abbrev pub invariant-loop-change : goal.invariant-loop-change
invariant-loop-change l = l.numbers.items ≡ l.initial.numbers.items ++ flat_map (λ (c : ListenerChange). served_begun l.before.shown c.served) (take l.change-index l.changes)
