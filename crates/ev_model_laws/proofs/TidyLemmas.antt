-- Why tidying a world that was tidied changes nothing:
-- no row that warms is ready any more, since neither what goes with names that aren't watched nor the results
-- that go are of a live row, and what is filtered was filtered by the same tests.
use Rattle.std.proofs.Common.{◌≡◌, ℕ, Bool, true, false, not, ◌&&◌, ◌||◌, ◌==◌, List, map, filter, filter_map, Option, None, refl, ap, ap₂, sym, ◌∙◌, ◌++◌}
use Rattle.std.specs.List.{Contains, list_all, last_or}
use Rattle.std.specs.Str.{bytes_eq}
use Rattle.std.specs.Cmp.{first_so, second_so}
use Rattle.std.proofs.lemmas.Bool.{and_from}
use Rattle.std.proofs.lemmas.List.Elements.{All-map, All-contains}
use Rattle.std.proofs.lemmas.Map.Views.{any-filter_same}
use Rattle.ev_types.specs.Hosts.{HostRowParts}
use Rattle.ev_types.specs.Kinds.{kind_same, kind_decides}
use Rattle.ev_types.specs.Same.{bytes_decide, numbers_decide}
use Rattle.ev_types.specs.SameHosts.{host_same, host_decides, has_host}
use Rattle.ev_types.specs.Statuses.{is_warming, is_live}
use Rattle.ev_types.specs.declared.hosts.Host.{Host}
use Rattle.ev_types.specs.declared.contents.Kind.{Kind}
use Rattle.ev_types.specs.declared.contents.Kind.TheVariants.{Eds, Sds}
use Rattle.ev_types.specs.declared.contents.Content.{Content}
use Rattle.ev_types.specs.declared.contents.Content.TheVariants.{Cluster as a_cluster, Assignment as an_assignment, Listener as a_listener, Routes as routes, Secret as a_secret, Extension as an_extension}
use Rattle.ev_types.specs.declared.clusters.Discovery.{Discovery}
use Rattle.ev_types.specs.declared.clusters.Discovery.TheVariants.{Static, Eds as by_eds, Elsewhere}
use Rattle.ev_types.specs.declared.rows.Arrival.{Arrival}
use Rattle.ev_types.specs.declared.rows.RowStatus.{RowStatus}
use Rattle.ev_types.specs.declared.rows.RowStatus.TheVariants.{Warming, Active, Draining, Dropped}
use Rattle.ev_types.specs.declared.rows.Phase.{Phase}
use Rattle.ev_types.specs.declared.rows.Phase.TheVariants.{Clusters, Listeners, Serving}
use Rattle.ev_types.specs.declared.rows.GenRow.{GenRow}
use Rattle.ev_types.specs.declared.rows.Live.{Live}
use Rattle.ev_model.specs.World.{World, Arrived, HealthResult}
use Rattle.ev_model.specs.Live.{lives_of, live_of}
use Rattle.ev_model.specs.Watching.{Dependency, dependencies_of, discovery_dependencies, has_dependency, is_dependency, is_watched, each_once, referred, cluster_secrets}
use Rattle.ev_model.specs.Warming.{is_for, came_for, content_in, rows_in, is_word, is_timeout, last_made, counts_for, has_answer, is_answered_by, discovered, assignment_by, is_checked, is_result_of, has_result, has_all_results, is_ready_by}
use Rattle.ev_model.specs.Rows.{is_row_of}
use Rattle.ev_model.specs.Phase.{phase_from, phase_after, clusters_have_come, listeners_have_come}
use Rattle.ev_model.specs.Tidy.{is_due, has_successor, status_by, promoted_status, promoted_rows, promoted, arrivals_watched, is_version_due, without_unwatched, is_result_due, without_old_results, with_phase, tidy}
use Rattle.ev_model_laws.specs.Kept.{NothingIsDue}
use Rattle.ev_model_laws.specs.Tidying.{TidiesOnce}
use Rattle.ev_model_laws.proofs.TidyLists.{all_of, any_at, any_none, all_agree, map_same, filter_within, filter_twice, any_of_map, first_in}

-- what is depended on is watched
abbrev pub IsKept : List Live → List Dependency → Type 0
IsKept lives ds = (d : Dependency) → Contains ds d → is_watched lives d.kind d.name ≡ true

-- a dependency is of its own kind and name
own_dependency : (d : Dependency) → is_dependency d.kind d.name d ≡ true
own_dependency d = simp ((kind_decides d.kind d.kind).1 refl, (bytes_decide d.name d.name).1 refl) refl

-- what a live row depends on is watched
pub kept : (world : World) (row : GenRow) → Contains world.rows row → is_live row.status ≡ true → IsKept (lives_of world) (dependencies_of row.content)
kept world row there live = λ d among.
    any_of_map (λ (l : Live). has_dependency d.kind d.name l.content) live_of (λ (r : GenRow). is_live r.status) world.rows
    ∙ any_at (λ (r : GenRow). is_live r.status && has_dependency d.kind d.name r.content) world.rows row there
    (and_from (is_live row.status) (has_dependency d.kind d.name row.content) live
    (any_at (is_dependency d.kind d.name) (dependencies_of row.content) d among (own_dependency d)))

-- what is for a watched name is watched
for_watched : (lives : List Live) (kind : Kind) (name : List ℕ) (a : Arrived) → is_watched lives kind name ≡ true
    → is_for kind name a ≡ true
    → is_watched lives a.kind a.name ≡ true
for_watched lives kind name a watched h =
    ap (λ k. is_watched lives k a.name) ((kind_decides a.kind kind).0 (first_so (kind_same a.kind kind) (bytes_eq a.name name) h))
    ∙ ap (is_watched lives kind) ((bytes_decide a.name name).0 (second_so (kind_same a.kind kind) (bytes_eq a.name name) h))
    ∙ watched

-- what was received for a watched name stays, in order
pub for_same : (lives : List Live) (arrivals : List Arrived) (kind : Kind) (name : List ℕ) → is_watched lives kind name ≡ true
    → filter (is_for kind name) (arrivals_watched lives arrivals) ≡ filter (is_for kind name) arrivals
for_same lives arrivals kind name watched =
    filter_within (is_for kind name) (λ (a : Arrived). is_watched lives a.kind a.name)
    (λ (a : Arrived). for_watched lives kind name a watched) arrivals

pub came_same : (lives : List Live) (arrivals : List Arrived) (kind : Kind) (name : List ℕ) → is_watched lives kind name ≡ true
    → came_for (arrivals_watched lives arrivals) kind name ≡ came_for arrivals kind name
came_same lives arrivals kind name watched = ap (map (λ (a : Arrived). a.arrival)) (for_same lives arrivals kind name watched)

-- so when the last of a sort came for it
made_same : (is : Arrival → Bool) (lives : List Live) (arrivals : List Arrived) (kind : Kind) (name : List ℕ)
    → is_watched lives kind name ≡ true
    → last_made is (arrivals_watched lives arrivals) kind name ≡ last_made is arrivals kind name
made_same is lives arrivals kind name watched =
    ap (λ (came : List Arrived). last_or None (map (λ (a : Arrived). a.made) came))
    (filter_within (λ (a : Arrived). is_for kind name a && is a.arrival) (λ (a : Arrived). is_watched lives a.kind a.name)
    (λ (a : Arrived) h. for_watched lives kind name a watched (first_so (is_for kind name a) (is a.arrival) h)) arrivals)

-- so whether the control plane has answered for each dependency
answers_same : (lives : List Live) (arrivals : List Arrived) (number : ℕ) (ds : List Dependency) → IsKept lives ds
    → list_all (has_answer (arrivals_watched lives arrivals) number) ds ≡ list_all (has_answer arrivals number) ds
answers_same lives arrivals number ds watched =
    all_agree (has_answer (arrivals_watched lives arrivals) number) (has_answer arrivals number) ds
    (λ d among.
    ap₂ (λ (told timed : Option ℕ). counts_for number d told || (counts_for number d timed && d.limited))
    (made_same is_word lives arrivals d.kind d.name (watched d among))
    (made_same is_timeout lives arrivals d.kind d.name (watched d among)))

-- and so the hosts of a cluster whose dependencies are watched, whatever else it depends on
discovered_same : (lives : List Live) (arrivals : List Arrived) (discovery : Discovery) (more : List Dependency)
    → IsKept lives (each_once (discovery_dependencies discovery ++ more))
    → discovered (arrivals_watched lives arrivals) discovery ≡ discovered arrivals discovery
discovered_same lives arrivals (Static rows) more watched = refl
discovered_same lives arrivals (by_eds service limited fresh) more watched =
    let d : Dependency = record { kind = Eds; name = service; limited = limited; fresh = fresh } in
    ap (λ came. rows_in (last_or None (filter_map content_in came))) (came_same lives arrivals Eds service (watched d (first_in d _)))
discovered_same lives arrivals Elsewhere more watched = refl

hosts_same : (lives : List Live) (arrivals : List Arrived) (content : Content) → IsKept lives (dependencies_of content)
    → assignment_by (arrivals_watched lives arrivals) content ≡ assignment_by arrivals content
hosts_same lives arrivals (a_cluster cluster) watched =
    discovered_same lives arrivals cluster.discovery (referred Sds (cluster_secrets cluster)) watched
hosts_same lives arrivals (an_assignment rows) watched = refl
hosts_same lives arrivals (a_listener listener) watched = refl
hosts_same lives arrivals (routes table) watched = refl
hosts_same lives arrivals a_secret watched = refl
hosts_same lives arrivals an_extension watched = refl

-- a row whose dependencies are watched is ready without what isn't watched where it is ready with it
pub watched_ready : (lives : List Live) (arrivals : List Arrived) (results : List HealthResult) (row : GenRow)
    → IsKept lives (dependencies_of row.content)
    → is_ready_by (arrivals_watched lives arrivals) results row ≡ is_ready_by arrivals results row
watched_ready lives arrivals results row watched =
    ap (λ answered. answered && (not (is_checked row.content)
    || has_all_results results row.number (assignment_by (arrivals_watched lives arrivals) row.content)))
    (answers_same lives arrivals row.number (dependencies_of row.content) watched)
    ∙ ap
    (λ hosts. is_answered_by arrivals row.number row.content && (not (is_checked row.content) || has_all_results results row.number hosts))
    (hosts_same lives arrivals row.content watched)

-- a live row's results for hosts of its assignment stay: the row itself is why
due_result : (arrivals : List Arrived) (rows : List GenRow) (row : GenRow) (result : HealthResult) → Contains rows row → is_live row.status ≡ true
    → result.number ≡ row.number → has_host result.host (assignment_by arrivals row.content) ≡ true → is_result_due arrivals rows result ≡ true
due_result arrivals rows row result there live number host =
    any_at (λ (r : GenRow). is_live r.status && (r.number == result.number) && has_host result.host (assignment_by arrivals r.content)) rows row there
    (simp (live, (numbers_decide row.number result.number).1 (sym number), host) refl)

result_same : (arrivals : List Arrived) (rows : List GenRow) (results : List HealthResult) (row : GenRow) (host : Host)
    → Contains rows row → is_live row.status ≡ true → has_host host (assignment_by arrivals row.content) ≡ true
    → has_result (filter (is_result_due arrivals rows) results) row.number host ≡ has_result results row.number host
result_same arrivals rows results row host there live among =
    any-filter_same (is_result_of row.number host) (is_result_due arrivals rows) true
    (λ (r : HealthResult) h.
    due_result arrivals rows row r there live
    ((numbers_decide r.number row.number).0 (first_so (r.number == row.number) (host_same r.host host) h))
    (ap (λ t. has_host t (assignment_by arrivals row.content)) ((host_decides r.host host).0 (second_so (r.number == row.number) (host_same r.host host) h)) ∙ among))
    results

-- the hosts of a list are in it
own_host : (hosts : List HostRowParts) (h : HostRowParts) → Contains hosts h → has_host h.host hosts ≡ true
own_host hosts h there =
    any_at (λ (other : HostRowParts). host_same other.host h.host) hosts h there ((host_decides h.host h.host).1 refl)

all_results_same : (arrivals : List Arrived) (rows : List GenRow) (results : List HealthResult) (row : GenRow)
    → Contains rows row → is_live row.status ≡ true
    → has_all_results (filter (is_result_due arrivals rows) results) row.number (assignment_by arrivals row.content)
    ≡ has_all_results results row.number (assignment_by arrivals row.content)
all_results_same arrivals rows results row there live =
    all_agree (λ (h : HostRowParts). has_result (filter (is_result_due arrivals rows) results) row.number h.host)
    (λ (h : HostRowParts). has_result results row.number h.host)
    (assignment_by arrivals row.content)
    (λ (h : HostRowParts) among.
    result_same arrivals rows results row h.host there live (own_host (assignment_by arrivals row.content) h among))

-- a live row is ready without old results where it is ready with them
pub results_ready : (arrivals : List Arrived) (rows : List GenRow) (results : List HealthResult) (row : GenRow)
    → Contains rows row → is_live row.status ≡ true
    → is_ready_by arrivals (filter (is_result_due arrivals rows) results) row ≡ is_ready_by arrivals results row
results_ready arrivals rows results row there live =
    ap (λ resulted. is_answered_by arrivals row.number row.content && (not (is_checked row.content) || resulted))
    (all_results_same arrivals rows results row there live)

due_by : (status : RowStatus) (a b : Bool) → (is_live status ≡ true → a ≡ b) → (is_warming status && a) ≡ (is_warming status && b)
due_by Warming a b same = same refl
due_by Active a b same = refl
due_by Draining a b same = refl
due_by Dropped a b same = refl

-- the row is due in this world
abbrev is_due_in : World → GenRow → Bool
is_due_in world row = is_due world.arrivals world.results row

-- so no row comes to be due by what goes
due_same : (world : World) (row : GenRow) → Contains world.rows row
    → is_due_in (without_old_results (without_unwatched world)) row ≡ is_due_in world row
due_same world row there =
    let watched : List Arrived = arrivals_watched (lives_of world) world.arrivals in
    due_by row.status (is_ready_by watched (filter (is_result_due watched world.rows) world.results) row)
    (is_ready_by world.arrivals world.results row)
    (λ live.
    results_ready watched world.rows world.results row there live
    ∙ watched_ready (lives_of world) world.arrivals world.results row (kept world row there live))

none_by : (succeeded ready : Bool) (status : RowStatus) → (is_warming (status_by succeeded ready status) && ready) ≡ false
none_by succeeded true Warming = refl
none_by succeeded false Warming = refl
none_by true ready Active = refl
none_by false ready Active = refl
none_by succeeded ready Draining = refl
none_by succeeded ready Dropped = refl

-- once all that are due serve, none is due
none_due : (world : World) → NothingIsDue (promoted world)
none_due world row there =
    let status_of : GenRow → RowStatus = promoted_status world.arrivals world.results world.rows in
    All-contains (λ (r : GenRow). is_due_in world r ≡ false) (promoted world).rows row
    (All-map (λ (r : GenRow). is_due_in world r ≡ false) (λ (r : GenRow). record r { status = status_of r }) world.rows
    (all_of (λ (r : GenRow). is_due_in world (record r { status = status_of r }) ≡ false) world.rows
    (λ (r : GenRow) among.
    none_by (has_successor world.arrivals world.results world.rows r) (is_ready_by world.arrivals world.results r) r.status)))
    there

pub status_kept : (succeeded ready : Bool) (status : RowStatus) → succeeded ≡ false → (is_warming status && ready) ≡ false
    → status_by succeeded ready status ≡ status
status_kept succeeded ready Warming alone none = simp none refl
status_kept succeeded ready Active alone none = simp alone refl
status_kept succeeded ready Draining alone none = refl
status_kept succeeded ready Dropped alone none = refl

and_false : (a b : Bool) → b ≡ false → (a && b) ≡ false
and_false true b h = h
and_false false b h = refl

no_successor : (world : World) (row : GenRow) → NothingIsDue world → has_successor world.arrivals world.results world.rows row ≡ false
no_successor world row none =
    any_none (λ (other : GenRow). is_row_of row.kind row.name other && is_due_in world other) world.rows
    (λ (other : GenRow) there. and_false (is_row_of row.kind row.name other) (is_due_in world other) (none other there))

-- where none is due, each row keeps its status
promotes_nothing : (world : World) → NothingIsDue world → promoted world ≡ world
promotes_nothing world none =
    let rows : promoted_rows world.arrivals world.results world.rows ≡ world.rows =
    map_same (λ (row : GenRow). record row { status = promoted_status world.arrivals world.results world.rows row }) world.rows
    (λ (row : GenRow) there.
    ap (λ (status : RowStatus). record row { status = status })
    (status_kept (has_successor world.arrivals world.results world.rows row) (is_ready_by world.arrivals world.results row) row.status
    (no_successor world row none) (none row there))) in
    λ i. record world { rows = rows i }

-- a phase that moved on as far as it can stays
phase_stays : (clusters listeners : Bool) (phase : Phase) → phase_from clusters listeners (phase_from clusters listeners phase) ≡ phase_from clusters listeners phase
phase_stays true true Clusters = refl
phase_stays true false Clusters = refl
phase_stays false listeners Clusters = refl
phase_stays clusters true Listeners = refl
phase_stays clusters false Listeners = refl
phase_stays clusters listeners Serving = refl

phased_once : (world : World) → with_phase (with_phase world) ≡ with_phase world
phased_once world =
    let phase : phase_after (with_phase world) ≡ phase_after world =
    phase_stays (clusters_have_come world) (listeners_have_come world) world.phase in
    λ i. record world { phase = phase i }

-- what is filtered already stays
nothing_unwatched : (world : World) → without_unwatched (tidy world) ≡ tidy world
nothing_unwatched world =
    let before : World = promoted world in
    let arrivals : (without_unwatched (tidy world)).arrivals ≡ (tidy world).arrivals =
    filter_twice (λ (a : Arrived). is_watched (lives_of before) a.kind a.name) before.arrivals in
    let versions : (without_unwatched (tidy world)).versions ≡ (tidy world).versions =
    filter_twice (is_version_due (lives_of before)) before.versions in
    λ i. record (tidy world) { arrivals = arrivals i; versions = versions i }

nothing_old : (world : World) → without_old_results (tidy world) ≡ tidy world
nothing_old world =
    let before : World = without_unwatched (promoted world) in
    let results : (without_old_results (tidy world)).results ≡ (tidy world).results = filter_twice (is_result_due before.arrivals before.rows) before.results in
    λ i. record (tidy world) { results = results i }

-- where a world was tidied no row is due
pub nothing_due : (world : World) → NothingIsDue (tidy world)
nothing_due world row there = due_same (promoted world) row there ∙ none_due world row there

pub tidied_once : TidiesOnce
tidied_once world =
    ap (λ (w : World). with_phase (without_old_results (without_unwatched w))) (promotes_nothing (tidy world) (nothing_due world))
    ∙ ap (λ (w : World). with_phase (without_old_results w)) (nothing_unwatched world)
    ∙ ap with_phase (nothing_old world)
    ∙ phased_once (without_old_results (without_unwatched (promoted world)))
