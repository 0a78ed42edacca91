-- What a picture shows of one generation, which is found by its number.
use Rattle.std.specs.Prelude.{ℕ, ◌&&◌, if◌then◌else◌, List, [], ◌∷◌, Option, None, Some}
use Rattle.ev_types.specs.Kinds.{kind_same}
use Rattle.ev_types.specs.Statuses.{is_active}
use Rattle.ev_types.specs.declared.contents.Kind.TheVariants.{Cds, Lds}
use Rattle.ev_types.specs.declared.rows.GenRow.{GenRow}
use Rattle.ev_model.specs.declared.pictures.ServedCluster.{ServedCluster}
use Rattle.ev_model.specs.declared.pictures.ServedListener.{ServedListener}
use Rattle.ev_model.specs.World.{World, Arrived, HealthResult}
use Rattle.ev_model.specs.Phase.{is_serving}
use Rattle.ev_model.specs.Picture.{served_cluster, served_listener}
use Rattle.ev_indexes.specs.KeptEndpoints.{ResultsKept}
use Rattle.ev_indexes.specs.Tables.{row_in}
use Rattle.ev_indexes.specs.declared.state.State.{State}
use Rattle.ev_indexes.specs.Reads.{cluster_in, listener_in}
use Rattle.ev_indexes.specs.Watched.{WatchesKept}

-- what a picture shows of a row that is found: an active cluster
abbrev pub cluster_shown : List Arrived → List HealthResult → Option GenRow → Option ServedCluster
cluster_shown arrivals results None = None
cluster_shown arrivals results (Some row) =
    if kind_same row.kind Cds && is_active row.status then Some (served_cluster arrivals results row) else None

-- what it shows of the cluster of this number
abbrev pub cluster_at : World → ℕ → Option ServedCluster
cluster_at world number = cluster_shown world.arrivals world.results (row_in number world.rows)

-- the first of these, where there is one
abbrev pub first_of : List ServedListener → Option ServedListener
first_of [] = None
first_of (listener ∷ listeners) = Some listener

-- what a picture shows of a row that is found once listeners serve: an active listener
abbrev pub listener_shown : List Arrived → Option GenRow → Option ServedListener
listener_shown arrivals None = None
listener_shown arrivals (Some row) =
    if kind_same row.kind Lds && is_active row.status then first_of (served_listener arrivals row row.content) else None

-- what it shows of the listener of this number once listeners serve
abbrev pub routed_at : World → ℕ → Option ServedListener
routed_at world number = listener_shown world.arrivals (row_in number world.rows)

-- what it shows of the listener of this number: nothing before listeners serve
abbrev pub listener_at : World → ℕ → Option ServedListener
listener_at world number = if is_serving world.phase then routed_at world number else None

-- the same of a state's row that is found, by what is known of names and the results that are kept: an active cluster
abbrev pub cluster_shown_in : WatchesKept → ResultsKept → Option GenRow → Option ServedCluster
cluster_shown_in watches results None = None
cluster_shown_in watches results (Some row) = if kind_same row.kind Cds && is_active row.status then Some (cluster_in watches results row) else None

-- an active listener
abbrev pub listener_shown_in : WatchesKept → Option GenRow → Option ServedListener
listener_shown_in watches None = None
listener_shown_in watches (Some row) = if kind_same row.kind Lds && is_active row.status then first_of (listener_in watches row row.content) else None

-- the same of the cluster of this number
abbrev pub cluster_by : State → ℕ → Option ServedCluster
cluster_by s number = cluster_shown_in s.watches s.results (row_in number s.table.rows)

-- the same of the listener of this number
abbrev pub listener_by : State → ℕ → Option ServedListener
listener_by s number = listener_shown_in s.watches (row_in number s.table.rows)
