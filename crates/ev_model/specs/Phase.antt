-- How far the proxy has booted. Source: Envoy's initialization:
-- listeners are asked for once the first clusters have warmed;
-- the order and the test are this project's profile.
use Rattle.std.specs.Prelude.{ℕ, Bool, true, false, not, ◌&&◌, ◌||◌, if◌then◌else◌, List, Option, Some, None}
use Rattle.std.specs.List.{list_any, list_all}
use Rattle.ev_types.specs.declared.contents.Kind.{Kind}
use Rattle.ev_types.specs.declared.contents.Kind.TheVariants.{Cds, Lds}
use Rattle.ev_types.specs.declared.rows.GenRow.{GenRow}
use Rattle.ev_types.specs.declared.rows.Phase.{Phase}
use Rattle.ev_types.specs.declared.rows.Phase.TheVariants.{Clusters, Listeners, Serving}
use Rattle.ev_model.specs.World.{World}
use Rattle.ev_types.specs.Statuses.{is_live, is_active}
use Rattle.ev_model.specs.Rows.{is_row_of}

-- a generation of the name serves
abbrev pub has_active : List GenRow → Kind → List ℕ → Bool
has_active rows kind name = list_any (λ (row : GenRow). is_row_of kind name row && is_active row.status) rows

-- a generation of the name warms or serves
abbrev pub has_live : List GenRow → Kind → List ℕ → Bool
has_live rows kind name = list_any (λ (row : GenRow). is_row_of kind name row && is_live row.status) rows

-- nothing is waited for under the name: it serves, or nothing of it is live
unfoldable pub has_come : List GenRow → Kind → List ℕ → Bool
has_come rows kind name = has_active rows kind name || not (has_live rows kind name)

-- a first response was received, and so was each of its names
abbrev pub all_have_come : (List ℕ → Bool) → Option (List (List ℕ)) → Bool
all_have_come comes None = false
all_have_come comes (Some names) = list_all comes names

-- the first of a kind have come or timed out: by whether they are late, which names have come, and the first names
abbrev pub have_come : Bool → (List ℕ → Bool) → Option (List (List ℕ)) → Bool
have_come late comes first = late || all_have_come comes first

-- the first clusters have come, or timed out
abbrev pub clusters_have_come : World → Bool
clusters_have_come world = have_come world.late_clusters (has_come world.rows Cds) world.first_clusters

-- the first listeners have come, or timed out
abbrev pub listeners_have_come : World → Bool
listeners_have_come world = have_come world.late_listeners (has_come world.rows Lds) world.first_listeners

-- once listeners are asked for, they serve where the first have come
abbrev pub listeners_phase : Bool → Phase
listeners_phase listeners_come = if listeners_come then Serving else Listeners

-- the phase that follows, by whether the first clusters and the first listeners have come:
-- this one, the next or the next but one
abbrev pub phase_from : Bool → Bool → Phase → Phase
phase_from clusters_come listeners_come Clusters = if clusters_come then listeners_phase listeners_come else Clusters
phase_from clusters_come listeners_come Listeners = listeners_phase listeners_come
phase_from clusters_come listeners_come Serving = Serving

-- the phase that the world moves on to: it never goes back
abbrev pub phase_after : World → Phase
phase_after world = phase_from (clusters_have_come world) (listeners_have_come world) world.phase

-- the first clusters are awaited
abbrev pub is_clusters : Phase → Bool
is_clusters Clusters = true
is_clusters Listeners = false
is_clusters Serving = false

-- listeners serve
abbrev pub is_serving : Phase → Bool
is_serving Clusters = false
is_serving Listeners = false
is_serving Serving = true
