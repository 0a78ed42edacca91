use Rattle.std.proofs.Common.{◌≡◌, ℕ, nat_eq, take}
use Rattle.indexmap.specs.IndexSet.{contains}
use Rattle.ev_tls.specs.Marking.{is_marked}
use Rattle.ev_tls.proofs.secrets.places_of.Given as goal

abbrev pub invariant-loop-item : goal.invariant-loop-item
invariant-loop-item l = (place : ℕ) → contains nat_eq l.set place ≡ is_marked (take l.item-index l.items) place
