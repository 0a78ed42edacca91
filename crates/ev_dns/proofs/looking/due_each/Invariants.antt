use Rattle.std.proofs.Common.{◌≡◌, map, nat_cmp, take}
use Rattle.std.specs.BTreeSet.{contains}
use Rattle.ev_expand.specs.Following.{due_shown}
use Rattle.ev_expand.specs.Numbers.{guarded_so_far}
use Rattle.ev_dns.specs.Known.{due_each}
use Rattle.ev_dns.proofs.looking.due_each.Given as goal

abbrev pub invariant-loop-place : goal.invariant-loop-place
invariant-loop-place l = map due_shown l.due.items ≡ due_each l.answers (guarded_so_far l.numbers) (contains nat_cmp l.complete) (take l.place-index l.places)
