-- Clusters without a host that may be chosen.
use Rattle.std.proofs.Common.{◌≡◌, ◌==◌, List, [], ◌∷◌, length, option_map, slice_get, refl, arith}
use Rattle.std.proofs.lemmas.Bool.Decides.{nat_tests}
use Rattle.std.specs.Option.{is_none}
use Rattle.ev_types.specs.Hosts.{HostRowParts}

-- a list without a first host is empty
pub no_first : (hosts : List HostRowParts) → is_none (option_map (λ (r : HostRowParts). r.host) (slice_get hosts 0)) ≡ (length hosts == 0)
no_first [] = refl
no_first (h ∷ hs) = grind (arith, nat_tests)
