-- When contents are equal.
use Rattle.std.specs.Prelude.{Bool, true, false, ◌≡◌, refl}
use Rattle.std.specs.Bool.{Decides}
use Rattle.std.proofs.Common.{ap}
use Rattle.ev_types.specs.declared.contents.Content.{Content}
use Rattle.ev_types.specs.declared.contents.Content.TheVariants.{Cluster, Assignment, Listener, Routes, Secret, Extension}
use Rattle.ev_types.specs.Same.{decides_as}
use Rattle.ev_types.specs.SameHosts.{rows_same, rows_decide}
use Rattle.ev_types.specs.SameClusters.{cluster_same, cluster_decides}
use Rattle.ev_types.specs.SameListeners.{listener_same, listener_decides}
use Rattle.ev_types.specs.SameRoutes.{route_table_same, route_table_decides}

-- the same resource of the same type
abbrev pub content_same : Content → Content → Bool
content_same (Cluster a) (Cluster b) = cluster_same a b
content_same (Assignment a) (Assignment b) = rows_same a b
content_same (Listener a) (Listener b) = listener_same a b
content_same (Routes a) (Routes b) = route_table_same a b
content_same Secret Secret = true
content_same Extension Extension = true
content_same a b = false

pub content_decides : (a b : Content) → Decides (content_same a b) (a ≡ b)
content_decides (Cluster a) (Cluster b) = decides_as (cluster_decides a b) (λ e. ap Cluster e) (λ e. cc)
content_decides (Assignment a) (Assignment b) = decides_as (rows_decide a b) (λ e. ap Assignment e) (λ e. cc)
content_decides (Listener a) (Listener b) = decides_as (listener_decides a b) (λ e. ap Listener e) (λ e. cc)
content_decides (Routes a) (Routes b) = decides_as (route_table_decides a b) (λ e. ap Routes e) (λ e. cc)
content_decides Secret Secret = (λ h. refl, λ e. refl)
content_decides Extension Extension = (λ h. refl, λ e. refl)
content_decides a b = (λ h. cc, λ e. cc)
