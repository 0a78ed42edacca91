use Rattle.std.proofs.Common.{◌≡◌, ◌++◌, take}
use Rattle.std.specs.List.{flat_map}
use Rattle.ev_subscription.specs.Asked.{change_request}
use Rattle.ev_subscription.proofs.requests.push_changes.Given as goal

abbrev pub invariant-loop-change : goal.invariant-loop-change
invariant-loop-change l = l.requests ≡ l.initial.requests ++ flat_map change_request (take l.change-index l.changes)
