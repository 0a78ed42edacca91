use Rattle.std.proofs.Common.{◌≡◌, ◌≤◌, ℕ, None, cond, nat_eq, take}
use Rattle.indexmap.specs.IndexMap.{IsUnique, get, spare}
use Rattle.ev_model.specs.Picture.{has_number}
use Rattle.ev_worker.proofs.members.close_all.Given as goal

abbrev pub invariant-loop-number : goal.invariant-loop-number
invariant-loop-number l =
    ((n : ℕ) → get nat_eq l.members n ≡ cond (has_number n (take l.number-index l.numbers)) None (get nat_eq l.initial.members n))
    × (spare l.initial.members ≤ spare l.members)
    × IsUnique nat_eq l.members
