-- When routes are equal.
use Rattle.std.specs.Prelude.{Bool, true, false, ◌≡◌, ◌&&◌, ◌==◌, List, refl}
use Rattle.std.specs.Bool.{Decides}
use Rattle.std.specs.Str.{bytes_eq}
use Rattle.std.proofs.Common.{ap}
use lib.Pointwise.{pointwise, pointwise_decides}
use Rattle.ev_types.specs.declared.routes.WeightedCluster.{WeightedCluster}
use Rattle.ev_types.specs.declared.routes.Target.{Target}
use Rattle.ev_types.specs.declared.routes.Target.TheVariants.{One, Weighted, Elsewhere}
use Rattle.ev_types.specs.declared.routes.Action.{Action}
use Rattle.ev_types.specs.declared.routes.Action.TheVariants.{Forward, Redirect, Local, Elsewhere as elsewhere}
use Rattle.ev_types.specs.declared.routes.Route.{Route}
use Rattle.ev_types.specs.declared.routes.VirtualHost.{VirtualHost}
use Rattle.ev_types.specs.declared.routes.RouteTable.{RouteTable}
use Rattle.ev_types.specs.Same.{texts_same, both_decide, decides_as, bytes_decide, numbers_decide}
use Rattle.ev_types.specs.SameMatchers.{route_match_same, route_match_decides}

-- the same name and weight
abbrev pub weighted_cluster_same : WeightedCluster → WeightedCluster → Bool
weighted_cluster_same a b = bytes_eq a.name b.name && (a.weight == b.weight)

-- the same clusters in the same order
abbrev pub weighted_clusters_same : List WeightedCluster → List WeightedCluster → Bool
weighted_clusters_same a b = pointwise weighted_cluster_same a b

-- the same cluster, or the same weighted clusters; all that no script tells are one
abbrev pub target_same : Target → Target → Bool
target_same (One a) (One b) = bytes_eq a b
target_same (Weighted a) (Weighted b) = weighted_clusters_same a b
target_same Elsewhere Elsewhere = true
target_same a b = false

-- the same kind of action, with the same target or status; all that no script tells are one
abbrev pub action_same : Action → Action → Bool
action_same (Forward a) (Forward b) = target_same a b
action_same Redirect Redirect = true
action_same (Local a) (Local b) = a == b
action_same elsewhere elsewhere = true
action_same a b = false

-- the same match and action
abbrev pub route_same : Route → Route → Bool
route_same a b = route_match_same a.route_match b.route_match && action_same a.action b.action

-- the same name, domains and routes
abbrev pub virtual_host_same : VirtualHost → VirtualHost → Bool
virtual_host_same a b = bytes_eq a.name b.name && texts_same a.domains b.domains && pointwise route_same a.routes b.routes

-- the same virtual hosts in the same order
abbrev pub route_table_same : RouteTable → RouteTable → Bool
route_table_same a b = pointwise virtual_host_same a.hosts b.hosts

pub weighted_cluster_decides : (a b : WeightedCluster) → Decides (weighted_cluster_same a b) (a ≡ b)
weighted_cluster_decides a b = decides_as (both_decide (bytes_decide a.name b.name) (numbers_decide a.weight b.weight))
    (λ (p, q). λ i. record { name = p i; weight = q i })
    (λ e. (ap (λ (c : WeightedCluster). c.name) e, ap (λ (c : WeightedCluster). c.weight) e))

pub weighted_clusters_decide : (a b : List WeightedCluster) → Decides (weighted_clusters_same a b) (a ≡ b)
weighted_clusters_decide = pointwise_decides weighted_cluster_decides

pub target_decides : (a b : Target) → Decides (target_same a b) (a ≡ b)
target_decides (One a) (One b) = decides_as (bytes_decide a b) (λ e. ap One e) (λ e. cc)
target_decides (Weighted a) (Weighted b) = decides_as (weighted_clusters_decide a b) (λ e. ap Weighted e) (λ e. cc)
target_decides Elsewhere Elsewhere = (λ h. refl, λ e. refl)
target_decides a b = (λ h. cc, λ e. cc)

pub action_decides : (a b : Action) → Decides (action_same a b) (a ≡ b)
action_decides (Forward a) (Forward b) = decides_as (target_decides a b) (λ e. ap Forward e) (λ e. cc)
action_decides Redirect Redirect = (λ h. refl, λ e. refl)
action_decides (Local a) (Local b) = decides_as (numbers_decide a b) (λ e. ap Local e) (λ e. cc)
action_decides elsewhere elsewhere = (λ h. refl, λ e. refl)
action_decides a b = (λ h. cc, λ e. cc)

pub route_decides : (a b : Route) → Decides (route_same a b) (a ≡ b)
route_decides a b = decides_as (both_decide (route_match_decides a.route_match b.route_match) (action_decides a.action b.action))
    (λ (p, q). λ i. record { route_match = p i; action = q i })
    (λ e. (ap (λ (r : Route). r.route_match) e, ap (λ (r : Route). r.action) e))

pub virtual_host_decides : (a b : VirtualHost) → Decides (virtual_host_same a b) (a ≡ b)
virtual_host_decides a b = decides_as
    (both_decide (both_decide (bytes_decide a.name b.name) (pointwise_decides bytes_decide a.domains b.domains)) (pointwise_decides route_decides a.routes b.routes))
    (λ p. λ i. record { name = p.0.0 i; domains = p.0.1 i; routes = p.1 i })
    (λ e. ((ap (λ (h : VirtualHost). h.name) e, ap (λ (h : VirtualHost). h.domains) e), ap (λ (h : VirtualHost). h.routes) e))

pub route_table_decides : (a b : RouteTable) → Decides (route_table_same a b) (a ≡ b)
route_table_decides a b = decides_as (pointwise_decides virtual_host_decides a.hosts b.hosts)
    (λ p. λ i. record { hosts = p i })
    (λ e. ap (λ (t : RouteTable). t.hosts) e)
