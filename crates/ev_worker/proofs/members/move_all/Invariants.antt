use Rattle.std.proofs.Common.{◌≡◌, ◌≤◌, ℕ, cond, nat_eq, take}
use Rattle.std.specs.Option.{option_map}
use Rattle.indexmap.specs.IndexMap.{IsUnique, get, spare}
use Rattle.ev_model.specs.Picture.{has_number}
use Rattle.ev_worker.specs.Members.{next_of}
use Rattle.ev_worker.proofs.members.move_all.Given as goal

abbrev pub invariant-loop-number : goal.invariant-loop-number
invariant-loop-number l =
    ((n : ℕ) → get nat_eq l.members n ≡ cond (has_number n (take l.number-index l.numbers)) (option_map (next_of l.snapshot.shown) (get nat_eq l.initial.members n)) (get nat_eq l.initial.members n))
    × (spare l.initial.members ≤ spare l.members)
    × IsUnique nat_eq l.members
