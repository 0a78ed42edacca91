use Rattle.std.proofs.Common.{◌+◌, ◌-◌, length}
use Rattle.ev_routes.specs.Domains.{KeepsLengths}
use Rattle.ev_routes.proofs.lengths.Lengths.enter.Given as goal

abbrev pub decreases-loop-self : goal.decreases-loop-self
decreases-loop-self l = l.length + 1 - length l.self-inside.there

abbrev pub invariant-loop-self : goal.invariant-loop-self
invariant-loop-self l = KeepsLengths l.initial.self-inside.there l.self-inside.there
