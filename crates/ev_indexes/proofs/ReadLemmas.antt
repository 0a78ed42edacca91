-- What is read of a state that represents a world is what the machine reads of the world.
use Rattle.std.proofs.Common.{◌≡◌, ◌∙◌, ℕ, Bool, true, false, cond, not, ◌&&◌, ◌||◌, List, [], ◌∷◌, Option, unwrap_or, map, refl, sym, ap}
use Rattle.std.specs.List.{list_any, flat_map}
use Rattle.std.specs.Map.{lookup}
use Rattle.std.specs.Str.{bytes_eq}
use Rattle.std.proofs.lemmas.Bool.{and_parts}
use Rattle.ev_types.specs.Kinds.{kind_same, kind_decides}
use Rattle.ev_types.specs.Same.{bool_same, bytes_decide}
use Rattle.ev_types.specs.Statuses.{is_live}
use Rattle.ev_types.specs.declared.contents.Kind.{Kind}
use Rattle.ev_types.specs.declared.contents.Content.{Content}
use Rattle.ev_types.specs.declared.rows.GenRow.{GenRow}
use Rattle.ev_types.specs.declared.rows.Live.{Live}
use Rattle.ev_model.specs.World.{World}
use Rattle.ev_model.specs.Live.{live_of, lives_of}
use Rattle.ev_model.specs.Signals.{awaits, is_waiting, is_awaited}
use Rattle.ev_model.specs.Warming.{counts_for, has_word, has_timeout, last_told, last_timed}
use Rattle.ev_model.specs.Watching.{Dependency, dependencies_of, has_dependency, is_watched, watched_of, names_awaited}
use Rattle.ev_lookups.specs.Keys.{key_same, named}
use Rattle.ev_lookups.specs.declared.kind_keys.Key.{Key}
use Rattle.ev_indexes.specs.declared.state.State.{State}
use Rattle.ev_indexes.specs.declared.watches.Watch.{Watch}
use Rattle.ev_indexes.specs.Watched.{unwatched, watch_in, has_watcher, watchers_of}
use Rattle.ev_indexes.specs.Needs.{is_on, is_need}
use Rattle.ev_indexes.specs.Indexes.{IsIndexed, depends_on, waits, numbers_waiting, numbers_where}
use Rattle.ev_indexes.specs.Reads.{live_rows, names_needed, names_watched, awaits_in, is_waiting_in, is_one_waiting, is_timeout_due}
use Rattle.ev_indexes.specs.Worlds.{HasRows}
use Rattle.ev_indexes.proofs.NameLemmas.{same-names, sorted-in_order, among-watched, among_watched}
use Rattle.ev_indexes.proofs.WaitLemmas.{watcher-index, watchers-index, any-where}
use Rattle.ev_indexes.proofs.KeptLemmas.{kept_at-found}
use Rattle.ev_indexes.proofs.DependencyLemmas.{any-same, any-wider}

-- a test of what is seen of live rows
pub any-lives : (test : Content → Bool) (rows : List GenRow) → list_any (λ (live : Live). test live.content) (map live_of (live_rows rows)) ≡ list_any (λ (r : GenRow). is_live r.status && test r.content) rows
any-lives test [] = refl
any-lives test (row ∷ rows) = by (is_live row.status) (any-lives test rows)
  where
    by : (b : Bool) → list_any (λ (live : Live). test live.content) (map live_of (live_rows rows)) ≡ list_any (λ (r : GenRow). is_live r.status && test r.content) rows
        → list_any (λ (live : Live). test live.content) (map live_of (cond b (row ∷ live_rows rows) (live_rows rows))) ≡ ((b && test row.content) || list_any (λ (r : GenRow). is_live r.status && test r.content) rows)
    by true h = ap (λ t. test row.content || t) h
    by false h = h

module _ (s : State) (world : World) (stands : HasRows s world) (key : Key) where
  pub watched-world : list_any (depends_on key) s.table.rows ≡ is_watched (lives_of world) key.kind key.name
  watched-world = ap (list_any (depends_on key)) stands.rows ∙ sym (any-lives (λ content. has_dependency key.kind key.name content) world.rows)

  pub timeout-world : is_timeout_due s.watches s.table.rows key ≡ is_awaited world.arrivals world.rows key.kind key.name
  timeout-world = ap (list_any (is_waiting_in key (watch_in s.watches key))) stands.rows ∙ any-same-rows world.rows
    where
      one : (number : ℕ) (d : Dependency) → awaits_in key (watch_in s.watches key) number d ≡ awaits world.arrivals key.kind key.name number d
      one number d = by (is_on key d) refl
        where
          by : (b : Bool) → is_on key d ≡ b
              → ((b && d.limited) && not (counts_for number d (watch_in s.watches key).told || counts_for number d (watch_in s.watches key).timed))
              ≡ ((b && d.limited) && not (has_word world.arrivals number d || has_timeout world.arrivals number d))
          by true e =
              let p = and_parts (kind_same d.kind key.kind) (bytes_eq d.name key.name) e in
              let kind : d.kind ≡ key.kind = (kind_decides d.kind key.kind).0 p.0 in
              let name : d.name ≡ key.name = (bytes_decide d.name key.name).0 p.1 in
              (λ i. (true && d.limited) && not (counts_for number d (stands.told key i) || counts_for number d (stands.timed key i)))
              ∙ (λ i. (true && d.limited)
              && not (counts_for number d (last_told world.arrivals (sym kind i) (sym name i)) || counts_for number d (last_timed world.arrivals (sym kind i) (sym name i))))
          by false e = refl

      any-same-rows : (rows : List GenRow) → list_any (is_waiting_in key (watch_in s.watches key)) rows ≡ list_any (is_waiting world.arrivals key.kind key.name) rows
      any-same-rows [] = refl
      any-same-rows (row ∷ rows) = λ i.
          (is_live row.status && any-same (awaits_in key (watch_in s.watches key) row.number) (awaits world.arrivals key.kind key.name row.number) (one row.number) (dependencies_of row.content) i)
          || any-same-rows rows i

pub names-world : (s : State) (world : World) → HasRows s world → (kind : Kind) → names_watched kind s.table.rows ≡ watched_of world kind
names-world s world stands kind =
    same-names (names_watched kind s.table.rows) (watched_of world kind) (sorted-in_order (names_needed kind s.table.rows))
    (sorted-in_order (flat_map (λ (live : Live). names_awaited kind (dependencies_of live.content)) (lives_of world)))
    (λ name. among-watched kind s.table.rows name ∙ watched-world s world stands (named kind name) ∙ sym (among_watched (lives_of world) kind name))

-- who still waits is one of those that wait within a limit
pub still-waits : (key : Key) (watch : Watch) (r : GenRow) → is_waiting_in key watch r ≡ true → waits key true r ≡ true
still-waits key watch r h =
    let p = and_parts (is_live r.status) (list_any (awaits_in key watch r.number) (dependencies_of r.content)) h in
    λ i. p.0 i && any-wider (awaits_in key watch r.number) (is_need key true) (λ d w. one d w) (dependencies_of r.content) p.1 i
  where
    one : (d : Dependency) → awaits_in key watch r.number d ≡ true → is_need key true d ≡ true
    one d w =
        let q = and_parts (is_on key d && d.limited) (not (counts_for r.number d watch.told || counts_for r.number d watch.timed)) w in
        let n = and_parts (is_on key d) d.limited q.0 in
        λ i. bool_same (n.1 i) true && n.0 i

-- a look-up of a name finds who depends on it
module _ (s : State) (x : IsIndexed s) (key : Key) (o : Option Watch) (found : lookup (key_same key) s.watches ≡ o) where
  pub watcher-found : has_watcher (unwrap_or o unwatched) ≡ list_any (depends_on key) s.table.rows
  watcher-found = (λ i. has_watcher (sym (kept_at-found unwatched s.watches key o found) i)) ∙ watcher-index s x key

  pub watchers-found : watchers_of (unwrap_or o unwatched) ≡ numbers_waiting s.table.rows key
  watchers-found = (λ i. watchers_of (sym (kept_at-found unwatched s.watches key o found) i)) ∙ watchers-index s x key

  pub limited-found : (unwrap_or o unwatched).limited ≡ numbers_where (waits key true) s.table.rows
  limited-found = (λ i. (sym (kept_at-found unwatched s.watches key o found) i).limited) ∙ x.limited key

  pub timeout-found : is_one_waiting key (unwrap_or o unwatched) s.table.rows (unwrap_or o unwatched).limited ≡ is_timeout_due s.watches s.table.rows key
  timeout-found =
      ap (is_one_waiting key (unwrap_or o unwatched) s.table.rows) limited-found
      ∙ any-where (waits key true) (is_waiting_in key (unwrap_or o unwatched)) (still-waits key (unwrap_or o unwatched)) s.table.rows x.table.apart
      ∙ (λ i. list_any (is_waiting_in key (sym (kept_at-found unwatched s.watches key o found) i)) s.table.rows)
