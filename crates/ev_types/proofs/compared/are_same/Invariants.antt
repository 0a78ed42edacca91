use Rattle.std.proofs.Common.{◌≡◌, drop}
use lib.Pointwise.{pointwise}
use Rattle.ev_types.proofs.compared.are_same.Given as goal

abbrev pub invariant-loop-place : goal.invariant-loop-place
invariant-loop-place g l = pointwise g.T.Compared.same l.ones l.others ≡ pointwise g.T.Compared.same (drop l.place l.ones) (drop l.place l.others)
