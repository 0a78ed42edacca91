use Rattle.std.proofs.Common.{◌≡◌, ◌||◌, ℕ, nat_cmp, take}
use Rattle.std.specs.BTreeSet.{contains}
use Rattle.ev_dns.specs.Marking.{is_listed}
use Rattle.ev_dns.proofs.touching.put_places.Given as goal

abbrev pub invariant-loop-place : goal.invariant-loop-place
invariant-loop-place l = (place : ℕ) → contains nat_cmp l.set place ≡ (contains nat_cmp l.initial.set place || is_listed (take l.place-index l.places) place)
