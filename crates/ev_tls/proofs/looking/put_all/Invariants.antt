use Rattle.std.proofs.Common.{◌≡◌, ℕ, ◌||◌, map, nat_eq}
use Rattle.std.specs.BTreeSet.{contains}
use Rattle.std.specs.List.{list_any}
use Rattle.std.specs.Map.Iter.{deref}
use Rattle.std.specs.Ordering.{nat_cmp}
use Rattle.ev_tls.proofs.looking.put_all.Given as goal

abbrev pub invariant-loop-other : goal.invariant-loop-other
invariant-loop-other l = (n : ℕ) → contains nat_cmp l.places n ≡ (contains nat_cmp l.initial.places n || list_any (nat_eq n) (map deref l.yielded))
