use Rattle.std.proofs.Common.{take}
use Rattle.ev_expand.specs.Numbers.{guarded_so_far}
use Rattle.ev_tls.specs.Waiting.{Advances, HavePassed}
use Rattle.ev_tls.proofs.waiting.Waiting.advance_all.Given as goal

abbrev pub invariant-loop-place : goal.invariant-loop-place
invariant-loop-place l = HavePassed l.told (guarded_so_far l.numbers) l.initial.self.passed.items
    → Advances l.told (guarded_so_far l.numbers) (take l.place-index l.places) l.initial.self l.self l.finished
