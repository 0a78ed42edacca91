use Rattle.std.proofs.Common.{◌≡◌, drop}
use Rattle.std.specs.List.{list_all}
use Rattle.ev_state.specs.InitTargets.{comes_in}
use Rattle.ev_state.proofs.first.first_waiting.Given as goal

abbrev pub invariant-loop-place : goal.invariant-loop-place
invariant-loop-place l = list_all (comes_in l.kind l.known) (drop l.place l.names) ≡ list_all (comes_in l.kind l.known) l.names
