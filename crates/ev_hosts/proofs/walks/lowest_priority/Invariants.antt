use Rattle.std.proofs.Common.{◌≡◌, drop}
use Rattle.ev_hosts.specs.Chosen.{chosen_by, lowest_of}
use Rattle.ev_hosts.proofs.walks.lowest_priority.Given as goal

abbrev pub invariant-loop-place : goal.invariant-loop-place
invariant-loop-place l = l.lowest ≡ lowest_of (chosen_by (drop l.place l.marks) (drop l.place l.rows))
