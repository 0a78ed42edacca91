-- What follows an event by itself: a promotion changes what a picture shows of those generations alone that come to
-- serve or begin to drain, and forgetting changes nothing of it.
use Rattle.std.proofs.Common.{◌≡◌, ◌∙◌, ℕ, Bool, true, false, cond, not, ◌&&◌, ◌||◌, nat_eq, List, [], ◌∷◌, Option, None, Some, option_map, map, filter, refl, sym, ap}
use Rattle.std.specs.List.{AllByRecursion, filter_map, last_or, list_any}
use Rattle.std.specs.Prelude.{unwrap_or}
use Rattle.std.specs.Str.{bytes_eq}
use Rattle.std.proofs.lemmas.Bool.{false≢true, eqb-true, eq-eqb, and_parts}
use Rattle.ev_types.specs.Hosts.{HostRowParts}
use Rattle.ev_types.specs.Kinds.{kind_same, kind_decides}
use Rattle.ev_types.specs.Same.{bytes_decide}
use Rattle.ev_types.specs.SameHosts.{host_same, host_decides, has_host}
use Rattle.ev_types.specs.Statuses.{is_live, is_active}
use Rattle.ev_types.specs.declared.contents.Kind.{Kind}
use Rattle.ev_types.specs.declared.contents.Kind.TheVariants.{Cds, Lds}
use Rattle.ev_types.specs.declared.hosts.Host.{Host}
use Rattle.ev_types.specs.declared.rows.Live.{Live}
use Rattle.ev_types.specs.declared.rows.RowStatus.{RowStatus}
use Rattle.ev_types.specs.declared.rows.RowStatus.TheVariants.{Warming, Active, Draining, Dropped}
use Rattle.ev_types.specs.declared.rows.GenRow.{GenRow}
use Rattle.ev_model.specs.World.{World, Arrived, HealthResult}
use Rattle.ev_model.specs.Live.{live_of, lives_of}
use Rattle.ev_model.specs.Watching.{has_dependency, is_watched}
use Rattle.ev_model.specs.Warming.{content_in, assignment_by, is_result_of, is_healthy, is_ready_by}
use Rattle.ev_model.specs.Signals.{is_draining}
use Rattle.ev_model.specs.Tidy.{status_by, has_successor, promoted_status, promoted, arrivals_watched, without_unwatched, is_result_due, without_old_results}
use Rattle.ev_indexes.specs.Tables.{row_in}
use Rattle.ev_indexes.proofs.TableLemmas.{row_in-with_statuses}
use Rattle.ev_indexes.specs.Due.{is_one_of}
use Rattle.ev_warming.specs.Changes.{began_to_serve, began_to_drain}
use Rattle.ev_indexes.specs.Indexes.{status_in}
use Rattle.ev_indexes.proofs.WhereLemmas.{any-found}
use Rattle.ev_state.proofs.StillLemmas.{serving}
use Rattle.ev_state.proofs.SameLemmas.{AreAlike, AreSame, SameNeeds, SameResults}

-- one of the kind that serves is found, and is live
pub record IsServed (kind : Kind) (found : Option GenRow) (row : GenRow) : Type 0 where
  pub at : found ≡ Some row
  pub same : kind_same row.kind kind ≡ true
  pub active : is_active row.status ≡ true

pub served-is : (kind : Kind) (found : Option GenRow) (row : GenRow) → serving kind found ≡ Some row → IsServed kind found row
served-is kind None row at = absurd (cc)
served-is kind (Some other) row at = by (kind_same other.kind kind && is_active other.status) refl at
  where
    by : (b : Bool) → (kind_same other.kind kind && is_active other.status) ≡ b → cond b (Some other) None ≡ Some row → IsServed kind (Some other) row
    by true is at =
        let same : other ≡ row = cc in
        let parts = and_parts (kind_same other.kind kind) (is_active other.status) is in
        record { at = at; same = (λ i. kind_same (sym same i).kind kind) ∙ parts.0; active = (λ i. is_active (sym same i).status) ∙ parts.1 }
    by false isnt at = absurd (cc)

pub active-live : (status : RowStatus) → is_active status ≡ true → is_live status ≡ true
active-live Warming h = refl
active-live Active h = refl
active-live Draining h = h
active-live Dropped h = h

-- what a filter keeps of each item that another one keeps
filter_through : {A : Type 0} (keep p : A → Bool) → ((x : A) → p x ≡ true → keep x ≡ true) → (xs : List A) → filter p (filter keep xs) ≡ filter p xs
filter_through keep p keeps [] = refl
filter_through keep p keeps (x ∷ xs) = by (p x) refl (keep x) refl (filter_through keep p keeps xs)
  where
    by : (b : Bool) → p x ≡ b → (k : Bool) → keep x ≡ k → filter p (filter keep xs) ≡ filter p xs
        → filter p (cond k (x ∷ filter keep xs) (filter keep xs)) ≡ cond b (x ∷ filter p xs) (filter p xs)
    by true is true kept rest = (λ i. cond (is i) (x ∷ filter p (filter keep xs)) (filter p (filter keep xs))) ∙ ap (λ ys. x ∷ ys) rest
    by true is false gone rest = absurd (false≢true (sym gone ∙ keeps x is))
    by false isnt true kept rest = (λ i. cond (isnt i) (x ∷ filter p (filter keep xs)) (filter p (filter keep xs))) ∙ rest
    by false isnt false gone rest = rest

-- what a live row depends on is watched
any_live : (f : Live → Bool) (n : ℕ) (row : GenRow) (rows : List GenRow) → row_in n rows ≡ Some row → is_live row.status ≡ true → f (live_of row) ≡ true
    → list_any f (map live_of (filter (λ (r : GenRow). is_live r.status) rows)) ≡ true
any_live f n row rows at live is = any-kept rows (any-found (λ (r : GenRow). is_live r.status && f (live_of r)) n row rows at (λ i. live i && is i))
  where
    any-kept : (rs : List GenRow) → list_any (λ (r : GenRow). is_live r.status && f (live_of r)) rs ≡ true
        → list_any f (map live_of (filter (λ (r : GenRow). is_live r.status) rs)) ≡ true
    any-kept [] h = h
    any-kept (r ∷ rs) h = by (is_live r.status) h (any-kept rs)
      where
        rest : Bool
        rest = list_any f (map live_of (filter (λ (s : GenRow). is_live s.status) rs))

        or_more : (b : Bool) (c d : Bool) → (c ≡ true → d ≡ true) → (b || c) ≡ true → (b || d) ≡ true
        or_more true c d more h = refl
        or_more false c d more h = more h

        by : (b : Bool) → ((b && f (live_of r)) || list_any (λ (s : GenRow). is_live s.status && f (live_of s)) rs) ≡ true
            → (list_any (λ (s : GenRow). is_live s.status && f (live_of s)) rs ≡ true → rest ≡ true)
            → list_any f (map live_of (cond b (r ∷ filter (λ (s : GenRow). is_live s.status) rs) (filter (λ (s : GenRow). is_live s.status) rs))) ≡ true
        by true h more = or_more (f (live_of r)) (list_any (λ (s : GenRow). is_live s.status && f (live_of s)) rs) rest more h
        by false h more = more h

pub results-stay : (results : List HealthResult) (number : ℕ) (hosts : List HostRowParts) → SameResults results results number hosts
results-stay results number [] = tt
results-stay results number (h ∷ hosts) = (refl, results-stay results number hosts)

-- without what was received for names that nobody watches
watched_values : (kind : Kind) (world : World) (n : ℕ) (row : GenRow) → serving kind (row_in n world.rows) ≡ Some row
    → SameNeeds world.arrivals (arrivals_watched (lives_of world) world.arrivals) row.content
watched_values kind world n row at needed q needs =
    let served = served-is kind (row_in n world.rows) row at in
    let watched : is_watched (lives_of world) needed q ≡ true =
    any_live (λ (live : Live). has_dependency needed q live.content) n row world.rows served.at (active-live row.status served.active) needs in
    ap (λ (came : List Arrived). last_or None (filter_map content_in (map (λ (a : Arrived). a.arrival) came)))
    (filter_through (λ (a : Arrived). is_watched (lives_of world) a.kind a.name) (λ (a : Arrived). kind_same a.kind needed && bytes_eq a.name q)
    (λ a is.
    let parts = and_parts (kind_same a.kind needed) (bytes_eq a.name q) is in
    (λ i. is_watched (lives_of world) ((kind_decides a.kind needed).0 parts.0 i) ((bytes_decide a.name q).0 parts.1 i)) ∙ watched)
    world.arrivals)

pub unwatched-same : (world : World) → AreSame [] world (without_unwatched world)
unwatched-same world = record {
  clusters = record { rows = λ n other. refl; values = λ n row other at. watched_values Cds world n row at };
  listeners = record { rows = λ n other. refl; values = λ n row other at. watched_values Lds world n row at };
  results = λ n row other at. results-stay world.results row.number (assignment_by world.arrivals row.content);
  phase = refl;
}

-- what holds of each host that is among them holds of all
each_host : (P : Host → Type 0) (hosts : List HostRowParts) → ((host : Host) → has_host host hosts ≡ true → P host) → AllByRecursion (λ (h : HostRowParts). P h.host) hosts
each_host P [] holds = tt
each_host P (h ∷ hosts) holds = (
  holds h.host (λ i. (host_decides h.host h.host).1 refl i || has_host h.host hosts),
  each_host P hosts (λ host is. holds host ((λ i. host_same h.host host || is i) ∙ late (host_same h.host host))),
)
  where
    late : (b : Bool) → (b || true) ≡ true
    late true = refl
    late false = refl

-- without the results of what isn't live, or isn't assigned
due_stay : (world : World) (n : ℕ) (row : GenRow) → serving Cds (row_in n world.rows) ≡ Some row → (host : Host) → has_host host (assignment_by world.arrivals row.content) ≡ true
    → is_healthy (filter (is_result_due world.arrivals world.rows) world.results) row.number host ≡ is_healthy world.results row.number host
due_stay world n row at host has =
    let served = served-is Cds (row_in n world.rows) row at in
    let live = active-live row.status served.active in
    ap (λ (rs : List HealthResult). unwrap_or (last_or None (map (λ (r : HealthResult). r.healthy) rs)) false)
    (filter_through (is_result_due world.arrivals world.rows) (is_result_of row.number host)
    (λ r is.
    let parts = and_parts (nat_eq r.number row.number) (host_same r.host host) is in
    let numbered : nat_eq row.number r.number ≡ true = eq-eqb row.number r.number (sym (eqb-true r.number row.number parts.0)) in
    let hosted : has_host r.host (assignment_by world.arrivals row.content) ≡ true =
    (λ i. has_host ((host_decides r.host host).0 parts.1 i) (assignment_by world.arrivals row.content)) ∙ has in
    any-found (λ (other : GenRow). is_live other.status && nat_eq other.number r.number && has_host r.host (assignment_by world.arrivals other.content)) n row world.rows served.at
    (λ i. live i && numbered i && hosted i))
    world.results)

pub old_results-same : (world : World) → AreSame [] world (without_old_results world)
old_results-same world = record {
  clusters = record { rows = λ n other. refl; values = λ n row other at needed q needs. refl };
  listeners = record { rows = λ n other. refl; values = λ n row other at needed q needs. refl };
  results = λ n row other at.
      each_host (λ host. is_healthy (without_old_results world).results row.number host ≡ is_healthy world.results row.number host)
      (assignment_by world.arrivals row.content) (due_stay world n row at);
  phase = refl;
}

-- where it didn't come to serve and didn't begin to drain
module _ (kind : Kind) (succeeded ready : GenRow → Bool) where
  abbrev next : GenRow → RowStatus
  next row = status_by (succeeded row) (ready row) row.status

  moved_none : (found : Option GenRow)
      → (not (is_active (status_in found)) && is_active (status_in (option_map (λ (row : GenRow). record row { status = next row }) found))) ≡ false
      → (is_active (status_in found) && is_draining (status_in (option_map (λ (row : GenRow). record row { status = next row }) found))) ≡ false
      → serving kind (option_map (λ (row : GenRow). record row { status = next row }) found) ≡ serving kind found
  moved_none None serves drains = refl
  moved_none (Some row) serves drains = by (succeeded row) (ready row) row.status serves drains
    where
      by : (s r : Bool) (status : RowStatus) → (not (is_active status) && is_active (status_by s r status)) ≡ false
          → (is_active status && is_draining (status_by s r status)) ≡ false
          → cond (kind_same row.kind kind && is_active (status_by s r status)) (Some (record row { status = status_by s r status })) None
          ≡ cond (kind_same row.kind kind && is_active status) (Some (record row { status = status })) None
      by s true Warming serves drains = absurd (false≢true (sym serves))
      by s false Warming serves drains = refl
      by true r Active serves drains = absurd (false≢true (sym drains))
      by false r Active serves drains = refl
      by s r Draining serves drains = refl
      by s r Dropped serves drains = refl

-- all that is due serves
promoted_alike : (kind : Kind) (changed : List ℕ) (world : World)
    → ((n : ℕ) → is_one_of changed n ≡ false → began_to_serve n world.rows (promoted world).rows ≡ false)
    → ((n : ℕ) → is_one_of changed n ≡ false → began_to_drain n world.rows (promoted world).rows ≡ false)
    → AreAlike kind changed world (promoted world)
promoted_alike kind changed world serve drain = record {
  rows = λ n other.
      let found = row_in-with_statuses n (promoted_status world.arrivals world.results world.rows) world.rows in
      ap (serving kind) found
      ∙ moved_none kind (has_successor world.arrivals world.results world.rows) (is_ready_by world.arrivals world.results) (row_in n world.rows)
      ((λ i. not (is_active (status_in (row_in n world.rows))) && is_active (status_in (sym found i))) ∙ serve n other)
      ((λ i. is_active (status_in (row_in n world.rows)) && is_draining (status_in (sym found i))) ∙ drain n other);
  values = λ n row other at needed q needs. refl;
}

pub promoted-same : (changed : List ℕ) (world : World)
    → ((n : ℕ) → is_one_of changed n ≡ false → began_to_serve n world.rows (promoted world).rows ≡ false)
    → ((n : ℕ) → is_one_of changed n ≡ false → began_to_drain n world.rows (promoted world).rows ≡ false)
    → AreSame changed world (promoted world)
promoted-same changed world serve drain = record {
  clusters = promoted_alike Cds changed world serve drain;
  listeners = promoted_alike Lds changed world serve drain;
  results = λ n row other at. results-stay world.results row.number (assignment_by world.arrivals row.content);
  phase = refl;
}
