use Rattle.std.proofs.Common.{◌≡◌, take}
use Rattle.ev_sotw.specs.Follows.{with_asked}
use Rattle.ev_sotw.proofs.known.TypeSoFar.put_names.Given as goal

abbrev pub invariant-loop-request : goal.invariant-loop-request
invariant-loop-request l = l.self ≡ with_asked l.kind (take l.request-index l.requests) l.initial.self
