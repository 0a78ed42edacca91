use Rattle.std.proofs.Common.{◌≡◌, ℕ, List, map, take}
use Rattle.ev_tls.specs.declared.awaited.Awaited.TheVariants.{Secret}
use Rattle.ev_tls.proofs.awaited.secrets.Given as goal

abbrev pub invariant-loop-name : goal.invariant-loop-name
invariant-loop-name l = l.awaited.items ≡ map (λ (name : List ℕ). Secret name) (take l.name-index l.names)
