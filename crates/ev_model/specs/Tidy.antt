-- What follows each event of the stream, the health checker and the timers by itself,
-- but publications, reapings and what is ignored. Source: cluster manager warming of Envoy's documentation:
-- an updated generation serves once it has warmed, and the one before it drains.
use Rattle.std.specs.Prelude.{Bool, not, ◌&&◌, ◌||◌, ◌==◌, if◌then◌else◌, List, filter}
use Rattle.std.specs.List.{list_any}
use Rattle.ev_types.specs.SameHosts.{has_host}
use Rattle.ev_types.specs.Statuses.{is_warming, is_live}
use Rattle.ev_types.specs.declared.rows.RowStatus.{RowStatus}
use Rattle.ev_types.specs.declared.rows.RowStatus.TheVariants.{Warming, Active, Draining, Dropped}
use Rattle.ev_types.specs.declared.rows.GenRow.{GenRow}
use Rattle.ev_types.specs.declared.rows.KeptVersion.{KeptVersion}
use Rattle.ev_types.specs.declared.rows.Live.{Live}
use Rattle.ev_model.specs.World.{World, Arrived, HealthResult}
use Rattle.ev_model.specs.Live.{lives_of}
use Rattle.ev_types.specs.Kinds.{is_by_name}
use Rattle.ev_model.specs.Watching.{is_watched}
use Rattle.ev_model.specs.Warming.{is_ready_by, assignment_by}
use Rattle.ev_model.specs.Rows.{is_row_of, with_statuses}
use Rattle.ev_model.specs.Phase.{phase_after}

-- the row warms and is ready, by what was received and the results
abbrev pub is_due : List Arrived → List HealthResult → GenRow → Bool
is_due arrivals results row = is_warming row.status && is_ready_by arrivals results row

-- of these rows one of the same kind and name is due
abbrev pub has_successor : List Arrived → List HealthResult → List GenRow → GenRow → Bool
has_successor arrivals results rows row =
    list_any (λ (other : GenRow). is_row_of row.kind row.name other && is_due arrivals results other) rows

-- a row that warms and is ready serves, and one that served before it drains
abbrev pub status_by : Bool → Bool → RowStatus → RowStatus
status_by succeeded ready Warming = if ready then Active else Warming
status_by succeeded ready Active = if succeeded then Draining else Active
status_by succeeded ready Draining = Draining
status_by succeeded ready Dropped = Dropped

-- the status of a row once all of these rows that are due serve
abbrev pub promoted_status : List Arrived → List HealthResult → List GenRow → GenRow → RowStatus
promoted_status arrivals results rows row =
    status_by (has_successor arrivals results rows row) (is_ready_by arrivals results row) row.status

-- these rows once all that are due serve
abbrev pub promoted_rows : List Arrived → List HealthResult → List GenRow → List GenRow
promoted_rows arrivals results rows = with_statuses (promoted_status arrivals results rows) rows

-- first: each warming row that is ready serves, and its active predecessor drains
abbrev pub promoted : World → World
promoted world = record world { rows = promoted_rows world.arrivals world.results world.rows }

-- what was received for names that these live rows watch
abbrev pub arrivals_watched : List Live → List Arrived → List Arrived
arrivals_watched lives arrivals = filter (λ (a : Arrived). is_watched lives a.kind a.name) arrivals

-- the version is that of a cluster or listener, or of a name that these live rows watch
abbrev pub is_version_due : List Live → KeptVersion → Bool
is_version_due lives kept = not (is_by_name kept.kind) || is_watched lives kept.kind kept.name

-- second: what is known of a name, and its version, are removed where the name isn't watched any more
abbrev pub without_unwatched : World → World
without_unwatched world = record world {
  arrivals = arrivals_watched (lives_of world) world.arrivals;
  versions = filter (is_version_due (lives_of world)) world.versions;
}

-- the result is of one of these rows, a live one, and of a host that is in its assignment now
abbrev pub is_result_due : List Arrived → List GenRow → HealthResult → Bool
is_result_due arrivals rows result =
    list_any (λ (row : GenRow). is_live row.status && (row.number == result.number) && has_host result.host (assignment_by arrivals row.content)) rows

-- third: results go of rows that aren't live, and of hosts that aren't in the row's assignment now
abbrev pub without_old_results : World → World
without_old_results world = record world { results = filter (is_result_due world.arrivals world.rows) world.results }

-- fourth and fifth: where the first clusters have come, listeners are awaited; and where those have come, they serve
abbrev pub with_phase : World → World
with_phase world = record world { phase = phase_after world }

-- all five, in this order
abbrev pub tidy : World → World
tidy world = with_phase (without_old_results (without_unwatched (promoted world)))
