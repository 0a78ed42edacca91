use Rattle.std.proofs.Common.{◌≡◌, ◌++◌}
use Rattle.ev_model.specs.Versions.{versions_of}
use Rattle.ev_subscription.specs.Held.{versions_in}
use Rattle.ev_subscription.proofs.versions.list.Given as goal

abbrev pub invariant-loop-key : goal.invariant-loop-key
invariant-loop-key l =
    l.list.items ++ versions_of l.kind (versions_in l.key-iterator) ≡ versions_of l.kind (versions_in l.versions.entries)
