use Rattle.std.proofs.Common.{◌≡◌, ◌||◌, ℕ, nat_cmp, take}
use Rattle.std.specs.BTreeSet.{contains}
use Rattle.ev_dns.specs.Marking.{is_marked}
use Rattle.ev_dns.proofs.touching.put_items.Given as goal

abbrev pub invariant-loop-item : goal.invariant-loop-item
invariant-loop-item l = (place : ℕ) → contains nat_cmp l.set place ≡ (contains nat_cmp l.initial.set place || is_marked (take l.item-index l.items) place)
