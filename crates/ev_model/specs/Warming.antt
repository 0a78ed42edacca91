-- What a generation waits for, and which hosts may be chosen. Source:
-- cluster manager warming of Envoy's documentation: a cluster waits for its endpoints and, where it is health checked,
-- for a first result of each host; a listener waits for its routes;
-- a wait ends with a response, a refusal, a notice of absence, or the initial fetch timeout.
-- An updated cluster waits until its endpoints are sent anew, though they may be as before:
-- of a fresh dependency only what was received since the generation was made counts.
-- Each word looks at what was received and at the health results; the same word of a world takes that world's.
use Rattle.std.specs.Prelude.{ℕ, Bool, true, false, not, ◌&&◌, ◌||◌, ◌==◌, nat_le, List, [], filter, filter_map, map, Option, Some, None, unwrap_or}
use Rattle.std.specs.List.{list_any, list_all, last_or}
use Rattle.std.specs.Str.{bytes_eq}
use Rattle.ev_types.specs.Hosts.{HostRowParts}
use Rattle.ev_types.specs.Kinds.{kind_same}
use Rattle.ev_types.specs.SameHosts.{host_same}
use Rattle.ev_types.specs.declared.hosts.Host.{Host}
use Rattle.ev_types.specs.declared.contents.Kind.{Kind}
use Rattle.ev_types.specs.declared.contents.Kind.TheVariants.{Eds}
use Rattle.ev_types.specs.declared.contents.Content.{Content}
use Rattle.ev_types.specs.declared.contents.Content.TheVariants.{Cluster as a_cluster, Assignment as an_assignment, Listener as a_listener, Routes as routes, Secret as a_secret, Extension as an_extension}
use Rattle.ev_types.specs.declared.clusters.Discovery.{Discovery}
use Rattle.ev_types.specs.declared.clusters.Discovery.TheVariants.{Static, Eds as by_eds, Elsewhere}
use Rattle.ev_types.specs.declared.rows.Arrival.{Arrival}
use Rattle.ev_types.specs.declared.rows.Arrival.TheVariants.{Value, Absent, Bad, TimedOut, Ended}
use Rattle.ev_types.specs.declared.rows.GenRow.{GenRow}
use Rattle.ev_model.specs.World.{World, Arrived, HealthResult}
use Rattle.ev_model.specs.Watching.{Dependency, dependencies_of}

-- it was received for the name of this kind
abbrev pub is_for : Kind → List ℕ → Arrived → Bool
is_for kind name a = kind_same a.kind kind && bytes_eq a.name name

-- what was received for a name of this kind, in order of coming
abbrev pub came_for : List Arrived → Kind → List ℕ → List Arrival
came_for arrivals kind name = map (λ (a : Arrived). a.arrival) (filter (is_for kind name) arrivals)

-- the resource that was received, where it was one, or what is held since its time to live ended
abbrev pub content_in : Arrival → Option Content
content_in (Value content) = Some content
content_in Absent = None
content_in Bad = None
content_in TimedOut = None
content_in (Ended content) = Some content

-- the value of a name by what was received: its last resource, or what is held since that ended
abbrev pub value_by : List Arrived → Kind → List ℕ → Option Content
value_by arrivals kind name = last_or None (filter_map content_in (came_for arrivals kind name))

-- the value of a name
abbrev pub value_of : World → Kind → List ℕ → Option Content
value_of world kind name = value_by world.arrivals kind name

-- the control plane has spoken: by a resource, a notice of absence, or one that was refused
abbrev pub is_word : Arrival → Bool
is_word (Value content) = true
is_word Absent = true
is_word Bad = true
is_word TimedOut = false
is_word (Ended content) = false

-- the initial fetch timeout has passed
abbrev pub is_timeout : Arrival → Bool
is_timeout (Value content) = false
is_timeout Absent = false
is_timeout Bad = false
is_timeout TimedOut = true
is_timeout (Ended content) = false

-- the name was reported, by what was received
abbrev pub is_told_by : List Arrived → Kind → List ℕ → Bool
is_told_by arrivals kind name = list_any is_word (came_for arrivals kind name)

-- something was received for the name
abbrev pub is_told : World → Kind → List ℕ → Bool
is_told world kind name = is_told_by world.arrivals kind name

-- how many numbers were allocated when the last of this sort was received for the name, if one was
abbrev pub last_made : (Arrival → Bool) → List Arrived → Kind → List ℕ → Option ℕ
last_made is arrivals kind name =
    last_or None (map (λ (a : Arrived). a.made) (filter (λ (a : Arrived). is_for kind name a && is a.arrival) arrivals))

-- how many were allocated when something was last received for the name
abbrev pub last_told : List Arrived → Kind → List ℕ → Option ℕ
last_told arrivals kind name = last_made is_word arrivals kind name

-- how many were allocated when the wait for the name last timed out
abbrev pub last_timed : List Arrived → Kind → List ℕ → Option ℕ
last_timed arrivals kind name = last_made is_timeout arrivals kind name

-- what was received when so many numbers were allocated counts for the generation of this number;
-- of a fresh dependency only if that stood by then
abbrev pub counts_for : ℕ → Dependency → Option ℕ → Bool
counts_for number d None = false
counts_for number d (Some made) = not d.fresh || nat_le number made

-- what the generation of this number depends on was received
abbrev pub has_word : List Arrived → ℕ → Dependency → Bool
has_word arrivals number d = counts_for number d (last_told arrivals d.kind d.name)

-- its wait timed out
abbrev pub has_timeout : List Arrived → ℕ → Dependency → Bool
has_timeout arrivals number d = counts_for number d (last_timed arrivals d.kind d.name)

-- what it depends on was received, or the wait has timed out where it is limited
abbrev pub has_answer : List Arrived → ℕ → Dependency → Bool
has_answer arrivals number d = has_word arrivals number d || (has_timeout arrivals number d && d.limited)

-- the generation of this number and content is answered: each of its dependencies is
abbrev pub is_answered_by : List Arrived → ℕ → Content → Bool
is_answered_by arrivals number content = list_all (has_answer arrivals number) (dependencies_of content)

-- the row is answered
abbrev pub is_answered : World → GenRow → Bool
is_answered world row = is_answered_by world.arrivals row.number row.content

-- the hosts of a value
abbrev pub rows_in : Option Content → List HostRowParts
rows_in None = []
rows_in (Some (a_cluster cluster)) = []
rows_in (Some (an_assignment rows)) = rows
rows_in (Some (a_listener listener)) = []
rows_in (Some (routes table)) = []
rows_in (Some a_secret) = []
rows_in (Some an_extension) = []

-- the hosts given in a cluster, or the value of its service, or none
abbrev pub discovered : List Arrived → Discovery → List HostRowParts
discovered arrivals (Static rows) = rows
discovered arrivals (by_eds service limited fresh) = rows_in (value_by arrivals Eds service)
discovered arrivals Elsewhere = []

-- the assignment of a content, by what was received
abbrev pub assignment_by : List Arrived → Content → List HostRowParts
assignment_by arrivals (a_cluster cluster) = discovered arrivals cluster.discovery
assignment_by arrivals (an_assignment rows) = []
assignment_by arrivals (a_listener listener) = []
assignment_by arrivals (routes table) = []
assignment_by arrivals a_secret = []
assignment_by arrivals an_extension = []

-- the assignment of a row now
abbrev pub assignment_of : World → GenRow → List HostRowParts
assignment_of world row = assignment_by world.arrivals row.content

-- a cluster whose hosts are health checked
abbrev pub is_checked : Content → Bool
is_checked (a_cluster cluster) = cluster.checked
is_checked (an_assignment rows) = false
is_checked (a_listener listener) = false
is_checked (routes table) = false
is_checked a_secret = false
is_checked an_extension = false

-- the result is of this row's number and this host
abbrev pub is_result_of : ℕ → Host → HealthResult → Bool
is_result_of number host result = (result.number == number) && host_same result.host host

-- the row of this number has a result of the host
abbrev pub has_result : List HealthResult → ℕ → Host → Bool
has_result results number host = list_any (is_result_of number host) results

-- each of these hosts has a result for the row of this number
abbrev pub has_all_results : List HealthResult → ℕ → List HostRowParts → Bool
has_all_results results number hosts = list_all (λ (h : HostRowParts). has_result results number h.host) hosts

-- a row is ready where it is answered and, as a checked cluster, has a result of each host
abbrev pub is_ready_by : List Arrived → List HealthResult → GenRow → Bool
is_ready_by arrivals results row =
    is_answered_by arrivals row.number row.content
    && (not (is_checked row.content) || has_all_results results row.number (assignment_by arrivals row.content))

-- the row is ready
abbrev pub is_ready : World → GenRow → Bool
is_ready world row = is_ready_by world.arrivals world.results row

-- the last result of the host for the row of this number says that it is healthy
abbrev pub is_healthy : List HealthResult → ℕ → Host → Bool
is_healthy results number host =
    unwrap_or (last_or None (map (λ (r : HealthResult). r.healthy) (filter (is_result_of number host) results))) false

-- a host may be chosen where it is usable and, in a checked cluster, healthy
abbrev pub is_eligible_by : List HealthResult → GenRow → HostRowParts → Bool
is_eligible_by results row h = h.usable && (not (is_checked row.content) || is_healthy results row.number h.host)

-- the host may be chosen for the row
abbrev pub is_eligible : World → GenRow → HostRowParts → Bool
is_eligible world row h = is_eligible_by world.results row h
