use Rattle.std.proofs.Common.{◌≡◌, ℕ, ◌||◌, take}
use Rattle.std.specs.BTreeSet.{contains}
use Rattle.std.specs.Ordering.{nat_cmp}
use Rattle.ev_tls.specs.Places.{has_place}
use Rattle.ev_tls.proofs.looking.put_each.Given as goal

abbrev pub invariant-loop-other : goal.invariant-loop-other
invariant-loop-other l = (n : ℕ) → contains nat_cmp l.places n ≡ (contains nat_cmp l.initial.places n || has_place (take l.other-index l.others) n)
