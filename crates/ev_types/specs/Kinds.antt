-- The kinds of resources, which of them are asked for by name, and their type URLs.
use Rattle.std.specs.Prelude.{ℕ, List, Bool, true, false, ◌≡◌, refl, if◌then◌else◌, Option, None, Some, codes}
use Rattle.std.specs.Bool.{Decides}
use Rattle.std.specs.Str.{bytes_eq}
use Rattle.ev_types.specs.declared.contents.Kind.{Kind}
use Rattle.ev_types.specs.declared.contents.Kind.TheVariants.{Cds, Eds, Lds, Rds, Sds, Ecds}

-- the same kind of resource
abbrev pub kind_same : Kind → Kind → Bool
kind_same Cds Cds = true
kind_same Eds Eds = true
kind_same Lds Lds = true
kind_same Rds Rds = true
kind_same Sds Sds = true
kind_same Ecds Ecds = true
kind_same a b = false

-- its resources are asked for by name: clusters and listeners are asked for all at once
abbrev pub is_by_name : Kind → Bool
is_by_name Cds = false
is_by_name Eds = true
is_by_name Lds = false
is_by_name Rds = true
is_by_name Sds = true
is_by_name Ecds = true

-- the type URL of a kind of resource
abbrev pub type_url : Kind → List ℕ
type_url Cds = codes "type.googleapis.com/envoy.config.cluster.v3.Cluster"
type_url Eds = codes "type.googleapis.com/envoy.config.endpoint.v3.ClusterLoadAssignment"
type_url Lds = codes "type.googleapis.com/envoy.config.listener.v3.Listener"
type_url Rds = codes "type.googleapis.com/envoy.config.route.v3.RouteConfiguration"
type_url Sds = codes "type.googleapis.com/envoy.extensions.transport_sockets.tls.v3.Secret"
type_url Ecds = codes "type.googleapis.com/envoy.config.core.v3.TypedExtensionConfig"

-- the kind of resource that has this type URL: none for a type that isn't read
abbrev pub kind_of_url : List ℕ → Option Kind
kind_of_url url =
    if bytes_eq url (type_url Cds) then Some Cds
    else if bytes_eq url (type_url Eds) then Some Eds
    else if bytes_eq url (type_url Lds) then Some Lds
    else if bytes_eq url (type_url Rds) then Some Rds
    else if bytes_eq url (type_url Sds) then Some Sds
    else if bytes_eq url (type_url Ecds) then Some Ecds
    else None

-- the test holds of equal kinds alone
pub kind_decides : (a b : Kind) → Decides (kind_same a b) (a ≡ b)
kind_decides Cds Cds = (λ h. refl, λ e. refl)
kind_decides Eds Eds = (λ h. refl, λ e. refl)
kind_decides Lds Lds = (λ h. refl, λ e. refl)
kind_decides Rds Rds = (λ h. refl, λ e. refl)
kind_decides Sds Sds = (λ h. refl, λ e. refl)
kind_decides Ecds Ecds = (λ h. refl, λ e. refl)
kind_decides a b = (λ h. cc, λ e. cc)

-- each kind has its own type URL
pub kind_of_type_url : (kind : Kind) → kind_of_url (type_url kind) ≡ Some kind
kind_of_type_url Cds = refl
kind_of_type_url Eds = refl
kind_of_type_url Lds = refl
kind_of_type_url Rds = refl
kind_of_type_url Sds = refl
kind_of_type_url Ecds = refl
