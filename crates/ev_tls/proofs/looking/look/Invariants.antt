use Rattle.std.proofs.Common.{◌≡◌, map}
use Rattle.std.specs.List.{flat_map}
use Rattle.std.specs.Map.Iter.{deref}
use Rattle.ev_expand.specs.Following.{due_shown}
use Rattle.ev_expand.specs.Numbers.{guarded_so_far}
use Rattle.ev_tls.specs.Looking.{due_one, marks_of}
use Rattle.ev_tls.proofs.looking.look.Given as goal

abbrev pub invariant-loop-place : goal.invariant-loop-place
invariant-loop-place l = map due_shown l.due.items ≡ flat_map (due_one (marks_of l.complete l.marks) l.values (guarded_so_far l.numbers)) (map deref l.yielded)
