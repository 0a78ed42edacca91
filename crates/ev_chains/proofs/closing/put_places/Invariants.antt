use Rattle.std.proofs.Common.{take}
use Rattle.std.specs.BTreeSet.{contains}
use Rattle.std.specs.Ordering.{nat_cmp}
use Rattle.ev_ledger.specs.Members.{has_place}
use Rattle.ev_chains.specs.Sets.{Gains}
use Rattle.ev_chains.proofs.closing.put_places.Given as goal

abbrev pub invariant-loop-place : goal.invariant-loop-place
invariant-loop-place l = Gains (contains nat_cmp) (λ conn. has_place 0 conn (take l.place-index l.places)) l.initial.conns l.conns
