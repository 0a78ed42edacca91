use Rattle.std.proofs.Common.{◌≡◌, None, take}
use Rattle.ev_types.specs.SameHosts.{place_of}
use Rattle.ev_types.proofs.hosts.walk_to.Given as goal

abbrev pub invariant-loop-place : goal.invariant-loop-place
invariant-loop-place l = place_of l.host (take l.place l.rows) ≡ None
