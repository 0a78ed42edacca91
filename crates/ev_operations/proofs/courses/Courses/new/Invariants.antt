use Rattle.std.proofs.Common.{◌+◌, []}
use Rattle.ev_operations.proofs.SeatLemmas.{AreSeated}
use Rattle.ev_operations.proofs.courses.Courses.new.Given as goal

abbrev pub invariant-loop-worker : goal.invariant-loop-worker
invariant-loop-worker l = AreSeated l.format l.script [] (4 + l.worker) l.seats.items
