use Rattle.std.proofs.Common.{take}
use Rattle.ev_expand.specs.Numbers.{guarded_so_far}
use Rattle.ev_dns.specs.Waiting.{EntersComplete}
use Rattle.ev_dns.proofs.complete.Complete.enter_all.Given as goal

abbrev pub invariant-loop-place : goal.invariant-loop-place
invariant-loop-place l = EntersComplete (guarded_so_far l.numbers) (take l.place-index l.places) l.initial.self l.self
