use Rattle.std.proofs.Common.{◌≡◌, ℕ, List, ◌||◌, map}
use Rattle.std.specs.BTreeSet.{contains}
use Rattle.std.specs.List.{list_any}
use Rattle.std.specs.Map.Iter.{deref}
use Rattle.std.specs.Ordering.{nat_cmp}
use Rattle.ev_tls.specs.declared.awaited.Awaited.TheVariants.{Endpoints}
use Rattle.ev_tls.specs.Places.{stands_under}
use Rattle.ev_tls.proofs.looking.put_served.Given as goal

abbrev pub invariant-loop-name : goal.invariant-loop-name
invariant-loop-name l = (n : ℕ) → contains nat_cmp l.places n
    ≡ (contains nat_cmp l.initial.places n || list_any (λ (name : List ℕ). stands_under l.served (Endpoints name) n) (map deref l.yielded))
