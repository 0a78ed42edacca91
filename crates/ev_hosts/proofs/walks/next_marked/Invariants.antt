use Rattle.ev_hosts.specs.Chosen.{SkipsUnmarked}
use Rattle.ev_hosts.proofs.walks.next_marked.Given as goal

abbrev pub invariant-loop-place : goal.invariant-loop-place
invariant-loop-place l = SkipsUnmarked l.marks l.from l.place
