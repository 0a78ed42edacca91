use Rattle.std.proofs.Common.{◌≡◌, take}
use Rattle.ev_sotw.specs.Follows.{without_given_up}
use Rattle.ev_sotw.proofs.known.TypeSoFar.drop_names.Given as goal

abbrev pub invariant-loop-request : goal.invariant-loop-request
invariant-loop-request l = l.self ≡ without_given_up l.kind (take l.request-index l.requests) l.initial.self
