use Rattle.std.proofs.Common.{◌≡◌, ◌++◌, not, filter, drop}
use Rattle.std.specs.Str.{bytes_eq}
use Rattle.indexmap.specs.IndexSet.{contains}
use Rattle.ev_subscription.proofs.changes.outside.Given as goal

abbrev pub invariant-loop-name : goal.invariant-loop-name
invariant-loop-name l =
    l.left.items ++ filter (λ name. not (contains bytes_eq l.set name)) (drop l.name-index l.names)
    ≡ filter (λ name. not (contains bytes_eq l.set name)) l.names
