use Rattle.std.proofs.Common.{◌≡◌, ℕ, List, map, take}
use Rattle.ev_tls.specs.declared.awaited.Awaited.TheVariants.{Endpoints}
use Rattle.ev_tls.proofs.awaited.endpoints.Given as goal

abbrev pub invariant-loop-name : goal.invariant-loop-name
invariant-loop-name l = l.awaited.items ≡ map (λ (name : List ℕ). Endpoints name) (take l.name-index l.names)
