-- What a guarded cluster waits for: secrets, and endpoints where it asks for some.
use Rattle.std.specs.Prelude.{◌≡◌, ℕ, Bool, true, false, ◌++◌, List, [], ◌∷◌, map}
use Rattle.std.specs.Bool.{Decides}
use Rattle.std.specs.Hash as fed
use Rattle.std.specs.Str.{bytes_eq}
use Rattle.std.proofs.Common.{ap}
use Rattle.ev_types.specs.Same.{decides_as, bytes_decide}
use Rattle.ev_types.specs.declared.clusters.Discovery.{Discovery}
use Rattle.ev_types.specs.declared.clusters.Discovery.TheVariants.{Static, Eds, Elsewhere}
use Rattle.ev_expand.specs.declared.keys.Key.{Key}
use Rattle.ev_tls.specs.declared.awaited.Awaited.{Awaited}
use Rattle.ev_tls.specs.declared.awaited.Awaited.TheVariants.{Secret, Endpoints}

-- the same name, of the same kind
abbrev pub awaited_same : Awaited → Awaited → Bool
awaited_same (Secret a) (Secret b) = bytes_eq a b
awaited_same (Endpoints a) (Endpoints b) = bytes_eq a b
awaited_same a b = false

pub awaited_decides : (a b : Awaited) → Decides (awaited_same a b) (a ≡ b)
awaited_decides (Secret a) (Secret b) = decides_as (bytes_decide a b) (λ e. ap Secret e) (λ e. cc)
awaited_decides (Endpoints a) (Endpoints b) = decides_as (bytes_decide a b) (λ e. ap Endpoints e) (λ e. cc)
awaited_decides a b = (λ h. cc, λ e. cc)

abbrev pub awaited_hash_input : Awaited → fed.HashWrites
awaited_hash_input (Secret name) = fed.bool false ++ fed.str name
awaited_hash_input (Endpoints name) = fed.bool true ++ fed.str name

-- the name by which a cluster's endpoints are asked for, where they are
abbrev pub services_of : Discovery → List (List ℕ)
services_of (Static rows) = []
services_of (Eds service limited fresh) = service ∷ []
services_of Elsewhere = []

-- what the clusters of a key wait for: each secret that they name, and then their endpoints
abbrev pub awaited_by : Key → List Awaited
awaited_by key = map Secret key.names ++ map Endpoints (services_of key.cluster.discovery)
