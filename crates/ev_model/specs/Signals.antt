-- What health results and timers do. Source: cluster manager warming (a checked cluster waits
-- for a first result of each host;
-- initial fetch timeouts) and draining of Envoy's documentation;
-- the end of a time to live, of the xDS transport protocol.
use Rattle.std.specs.Prelude.{ℕ, Bool, true, false, not, ◌&&◌, ◌||◌, if◌then◌else◌, List, [], ◌∷◌, ◌++◌, filter, map, Option, Some, None, is_some}
use Rattle.std.specs.List.{list_any}
use Rattle.ev_types.specs.SameHosts.{has_host}
use Rattle.ev_types.specs.Statuses.{is_live}
use Rattle.ev_types.specs.declared.hosts.Host.{Host}
use Rattle.ev_types.specs.declared.contents.Kind.{Kind}
use Rattle.ev_types.specs.declared.contents.Kind.TheVariants.{Cds, Eds, Lds, Rds, Sds, Ecds}
use Rattle.ev_types.specs.declared.events.Answer.{Answer}
use Rattle.ev_types.specs.declared.events.Answer.TheVariants.{Ignored, Done, Moved}
use Rattle.ev_types.specs.declared.contents.Content.{Content}
use Rattle.ev_types.specs.declared.contents.Content.TheVariants.{Assignment as an_assignment, Routes as routes}
use Rattle.ev_types.specs.declared.rows.Arrival.TheVariants.{TimedOut, Ended}
use Rattle.ev_types.specs.declared.rows.RowStatus.{RowStatus}
use Rattle.ev_types.specs.declared.rows.RowStatus.TheVariants.{Warming, Active, Draining, Dropped}
use Rattle.ev_types.specs.declared.rows.GenRow.{GenRow}
use Rattle.ev_model.specs.World.{World, Arrived, HealthResult}
use Rattle.ev_model.specs.Versions.{is_bounded, without_version}
use Rattle.ev_model.specs.Watching.{Dependency, dependencies_of, is_dependency}
use Rattle.ev_model.specs.Warming.{is_checked, assignment_by, has_word, has_timeout}
use Rattle.ev_model.specs.Phase.{is_clusters}
use Rattle.ev_model.specs.Rows.{is_row_of, arrived, removed_status, with_statuses}
use Rattle.ev_model.specs.Picture.{has_number}
use Rattle.ev_model.specs.Tidy.{tidy}
use Rattle.ev_model.specs.Requests.{requests_of}

-- an event has led from this world to one that is tidied; its requests are sent
abbrev pub moved : World → World → World × Answer
moved before after = (tidy after, Moved (requests_of before (tidy after) None))

-- a live checked cluster of this name that has the host now
abbrev pub is_meant : List Arrived → List ℕ → Host → GenRow → Bool
is_meant arrivals name host row =
    is_row_of Cds name row && is_live row.status && is_checked row.content && has_host host (assignment_by arrivals row.content)

-- those of these rows that a result is for
abbrev pub rows_meant : List Arrived → List ℕ → Host → List GenRow → List GenRow
rows_meant arrivals name host rows = filter (is_meant arrivals name host) rows

-- a row gets the result
abbrev pub result_for : Host → Bool → GenRow → HealthResult
result_for host healthy row = record { number = row.number; host = host; healthy = healthy }

-- these rows get the result
abbrev pub with_results : Host → Bool → List GenRow → World → World
with_results host healthy rows world = record world { results = world.results ++ map (result_for host healthy) rows }

-- a health result, for these clusters; where there are none, nothing is done
abbrev pub health_of : Host → Bool → List GenRow → World → World × Answer
health_of host healthy [] world = (world, Ignored)
health_of host healthy (row ∷ rows) world = moved world (with_results host healthy (row ∷ rows) world)

-- a health result of a cluster's host
abbrev pub health : List ℕ → Host → Bool → World → World × Answer
health name host healthy world = health_of host healthy (rows_meant world.arrivals name host world.rows) world

-- the generation of this number waits for the name within a limit:
-- it has neither been received, nor has the wait timed out
abbrev pub awaits : List Arrived → Kind → List ℕ → ℕ → Dependency → Bool
awaits arrivals kind name number d =
    is_dependency kind name d && d.limited && not (has_word arrivals number d || has_timeout arrivals number d)

-- a live row waits so for the name
abbrev pub is_waiting : List Arrived → Kind → List ℕ → GenRow → Bool
is_waiting arrivals kind name row = is_live row.status && list_any (awaits arrivals kind name row.number) (dependencies_of row.content)

-- one of these rows waits so for the name
abbrev pub is_awaited : List Arrived → List GenRow → Kind → List ℕ → Bool
is_awaited arrivals rows kind name = list_any (is_waiting arrivals kind name) rows

-- the fetch timeout of a name that is awaited
abbrev pub name_timeout : Kind → List ℕ → World → World × Answer
name_timeout kind name world =
    if is_awaited world.arrivals world.rows kind name
    then moved world (record world { arrivals = world.arrivals ++ arrived world.made kind TimedOut name ∷ [] })
    else (world, Ignored)

-- the same where there may be no name
abbrev pub name_timeout_of : Kind → Option (List ℕ) → World → World × Answer
name_timeout_of kind None world = (world, Ignored)
name_timeout_of kind (Some name) world = name_timeout kind name world

-- the fetch timeout of clusters: ignored where a response was received or they timed out before; else they are late
abbrev pub clusters_timeout : World → World × Answer
clusters_timeout world =
    if is_some world.first_clusters || world.late_clusters then (world, Ignored) else moved world (record world { late_clusters = true })

-- the fetch timeout of listeners: the same, and ignored also while clusters are awaited
abbrev pub listeners_timeout : World → World × Answer
listeners_timeout world =
    if is_clusters world.phase || (is_some world.first_listeners || world.late_listeners)
    then (world, Ignored)
    else moved world (record world { late_listeners = true })

-- an initial fetch timeout
abbrev pub fetch_timeout : Kind → Option (List ℕ) → World → World × Answer
fetch_timeout Cds name world = clusters_timeout world
fetch_timeout Eds name world = name_timeout_of Eds name world
fetch_timeout Lds name world = listeners_timeout world
fetch_timeout Rds name world = name_timeout_of Rds name world
fetch_timeout Sds name world = name_timeout_of Sds name world
fetch_timeout Ecds name world = name_timeout_of Ecds name world

-- it was replaced or removed after it had served
abbrev pub is_draining : RowStatus → Bool
is_draining Warming = false
is_draining Active = false
is_draining Draining = true
is_draining Dropped = false

-- a draining listener of this name whose number isn't among the expired ones: its drain timeout hasn't come
abbrev pub is_unexpired : List ℕ → List ℕ → GenRow → Bool
is_unexpired expired name row = is_row_of Lds name row && is_draining row.status && not (has_number row.number expired)

-- the numbers of those of these rows
abbrev pub unexpired : List ℕ → List ℕ → List GenRow → List ℕ
unexpired expired name rows = map (λ (row : GenRow). row.number) (filter (is_unexpired expired name) rows)

-- the drain timeout, for the listeners of these numbers; where there are none, nothing is done
abbrev pub expire : List ℕ → World → World × Answer
expire [] world = (world, Ignored)
expire (number ∷ numbers) world = (tidy (record world { expired = world.expired ++ number ∷ numbers }), Done)

-- the drain timeout of a listener's old generations
abbrev pub drain_timeout : List ℕ → World → World × Answer
drain_timeout name world = expire (unexpired world.expired name world.rows) world

-- the status of a row once the resource of this kind and name has come to its end: as if it were removed
abbrev pub ended_status : Kind → List ℕ → GenRow → RowStatus
ended_status kind name row = if is_row_of kind name row then removed_status row.status else row.status

-- these rows once the resource has come to its end
abbrev pub rows_ended : Kind → List ℕ → List GenRow → List GenRow
rows_ended kind name rows = with_statuses (ended_status kind name) rows

-- an assignment without hosts
abbrev pub no_hosts : Content
no_hosts = an_assignment []

-- a table without routes
abbrev pub no_routes : Content
no_routes = routes (record { hosts = [] })

-- a resource has come to its end: a cluster or listener is removed, endpoints or routes become none,
-- of which the control plane has said nothing, and a secret or an extension stays what it is
abbrev pub with_end : Kind → List ℕ → World → World
with_end Cds name world = record world { rows = rows_ended Cds name world.rows }
with_end Eds name world = record world { arrivals = world.arrivals ++ arrived world.made Eds (Ended no_hosts) name ∷ [] }
with_end Lds name world = record world { rows = rows_ended Lds name world.rows }
with_end Rds name world = record world { arrivals = world.arrivals ++ arrived world.made Rds (Ended no_routes) name ∷ [] }
with_end Sds name world = world
with_end Ecds name world = world

-- the version of the resource is removed, and with it the mark that its life is bounded
abbrev pub forget_version : Kind → List ℕ → World → World
forget_version kind name world = record world { versions = without_version kind name world.versions }

-- the end of a time to live; where the resource's life isn't bounded, nothing is done
abbrev pub ttl_expired : Kind → List ℕ → World → World × Answer
ttl_expired kind name world =
    if is_bounded world.versions kind name then moved world (with_end kind name (forget_version kind name world)) else (world, Ignored)
