use Rattle.ev_operations.proofs.DueLemmas.{AreDueSoFar}
use Rattle.ev_operations.proofs.dues.operations.Given as goal

abbrev pub invariant-loop-place : goal.invariant-loop-place
invariant-loop-place l = AreDueSoFar l.script l.actor l.dues l.waiting l.place
