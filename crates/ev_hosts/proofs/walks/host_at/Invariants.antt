use Rattle.std.proofs.Common.{◌≡◌, drop, slice_get}
use Rattle.ev_hosts.specs.Chosen.{chosen_by}
use Rattle.ev_hosts.proofs.walks.host_at.Given as goal

abbrev pub invariant-loop-at : goal.invariant-loop-at
invariant-loop-at l = slice_get (chosen_by l.marks l.rows) l.fn.place ≡ slice_get (chosen_by (drop l.at l.marks) (drop l.at l.rows)) l.left
