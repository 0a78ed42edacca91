use Rattle.ev_tls.specs.Known.{AddsAll}
use Rattle.ev_tls.proofs.known.Told.add_all.Given as goal

abbrev pub invariant-loop-awaited : goal.invariant-loop-awaited
invariant-loop-awaited l = AddsAll l.initial.self l.self l.yielded
