use Rattle.std.proofs.Common.{◌≡◌, map, replicate}
use Rattle.std.specs.Arc.{arc_value}
use Rattle.ev_retirement.proofs.pictures.held_by_all.Given as goal

abbrev pub invariant-loop : goal.invariant-loop
invariant-loop l = map arc_value l.held.items ≡ replicate l.counter (arc_value l.snapshot)
