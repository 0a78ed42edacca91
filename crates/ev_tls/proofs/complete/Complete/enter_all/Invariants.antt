use Rattle.std.proofs.Common.{ℕ, map, nat_eq}
use Rattle.std.specs.List.{list_any}
use Rattle.std.specs.Map.Iter.{deref}
use Rattle.ev_expand.specs.Numbers.{guarded_so_far}
use Rattle.ev_tls.specs.Waiting.{EntersAll}
use Rattle.ev_tls.proofs.complete.Complete.enter_all.Given as goal

abbrev pub invariant-loop-place : goal.invariant-loop-place
invariant-loop-place l = EntersAll (guarded_so_far l.numbers) (λ (n : ℕ). list_any (nat_eq n) (map deref l.yielded)) l.initial.self l.self
