use Rattle.std.proofs.Common.{◌≡◌, length, take}
use Rattle.ev_expand.specs.Numbers.{guarded_so_far}
use Rattle.ev_dns.specs.Waiting.{Advances, HavePassed}
use Rattle.ev_dns.proofs.waiting.Waiting.advance_all.Given as goal

abbrev pub invariant-loop-place : goal.invariant-loop-place
invariant-loop-place l = record {
  counted : length l.self.passed.items ≡ length l.initial.self.passed.items;
  passed : HavePassed l.answers (guarded_so_far l.numbers) l.initial.self.passed.items → HavePassed l.answers (guarded_so_far l.numbers) l.self.passed.items;
  advances : HavePassed l.answers (guarded_so_far l.numbers) l.initial.self.passed.items
      → Advances l.answers (guarded_so_far l.numbers) (take l.place-index l.places) l.initial.self.under l.self.under l.finished.items;
}
