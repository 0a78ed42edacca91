use Rattle.std.proofs.Common.{◌≡◌, take}
use Rattle.ev_listeners.proofs.routed.chains_of.Given as goal

abbrev pub invariant-loop-place : goal.invariant-loop-place
invariant-loop-place l = l.routed ≡ take l.place l.chains
