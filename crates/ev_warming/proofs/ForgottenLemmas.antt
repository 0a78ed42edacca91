-- A state that represents a world represents it once both have forgotten what nobody needs any more.
use Rattle.std.proofs.Common.{◌≡◌, ◌∙◌, ℕ, Bool, true, false, cond, not, ◌&&◌, ◌||◌, nat_eq, List, [], ◌∷◌, Option, None, Some, IsSome, is_some, unwrap_or, map, filter, refl, sym, ap, subst, true≢false}
use Rattle.std.specs.List.{list_any, last_or, AllByRecursion, IsDistinct}
use Rattle.std.specs.Str.{bytes_eq}
use Rattle.std.proofs.lemmas.Bool.{eqb-true, eq-eqb, and_parts}
use Rattle.ev_types.specs.Kinds.{kind_same, kind_decides}
use Rattle.ev_types.specs.Same.{bytes_decide}
use Rattle.ev_types.specs.SameHosts.{host_same, host_decides, has_host}
use Rattle.ev_types.specs.Statuses.{is_live}
use Rattle.ev_types.specs.declared.contents.Kind.{Kind}
use Rattle.ev_types.specs.declared.hosts.Host.{Host}
use Rattle.ev_types.specs.declared.rows.Live.{Live}
use Rattle.ev_types.specs.declared.rows.GenRow.{GenRow}
use Rattle.ev_model.specs.World.{World, Arrived, HealthResult}
use Rattle.ev_model.specs.Live.{lives_of}
use Rattle.ev_model.specs.Watching.{is_watched}
use Rattle.ev_model.specs.Warming.{is_word, is_timeout, last_told, last_timed, value_by, has_result, is_healthy, is_result_of, assignment_by, is_for}
use Rattle.ev_model.specs.Tidy.{arrivals_watched, without_unwatched, is_result_due, without_old_results}
use Rattle.ev_indexes.specs.KeptEndpoints.{ResultsKept, marked_in, result_in}
use Rattle.ev_indexes.specs.Tables.{row_in, numbers_of}
use Rattle.ev_indexes.proofs.TableLemmas.{number-row_in}
use Rattle.ev_lookups.specs.declared.kind_keys.Key.{Key}
use Rattle.ev_indexes.specs.declared.state.State.{State}
use Rattle.ev_indexes.specs.Due.{is_one_of}
use Rattle.ev_indexes.specs.Watched.{WatchesKept, unwatched, watch_in}
use Rattle.ev_indexes.specs.Indexes.{depends_on}
use Rattle.ev_indexes.specs.Worlds.{HasRows}
use Rattle.ev_warming.specs.Forgetting.{is_need_of, is_idle, keeps_result, loses_result, IsUnheard, IsTidyBut}
use Rattle.ev_indexes.proofs.WhereLemmas.{any-found, all-found}
use Rattle.ev_indexes.proofs.ReadLemmas.{watched-world}
use Rattle.ev_indexes.proofs.WorldLemmas.{hosts-by}
use Rattle.ev_warming.proofs.ForgettingLemmas.{busy-same, loses-same, tidy-forgot}
use Rattle.ev_warming.proofs.SortedLemmas.{last_made-same, value_by-same}

-- who is watched in the world
pub watched-same : (s : State) (world : World) → HasRows s world → (q : Key) → is_watched (lives_of world) q.kind q.name ≡ list_any (depends_on q) s.table.rows
watched-same s world stands q = sym (watched-world s world stands q)

pub both-same : {A : Type 0} (x : A) (b : Bool) → x ≡ cond b x x
both-same x true = refl
both-same x false = refl

-- what is left of what was received for a name
pub left-for : (lives : List Live) (arrivals : List Arrived) (kind : Kind) (q : List ℕ) → filter (is_for kind q) (arrivals_watched lives arrivals) ≡ cond (is_watched lives kind q) (filter (is_for kind q) arrivals) []
left-for lives [] kind q = both-same [] (is_watched lives kind q)
left-for lives (a ∷ arrivals) kind q = by (is_watched lives a.kind a.name) refl (is_for kind q a) refl (left-for lives arrivals kind q)
  where
    same : is_for kind q a ≡ true → is_watched lives kind q ≡ is_watched lives a.kind a.name
    same e =
        let p = and_parts (kind_same a.kind kind) (bytes_eq a.name q) e in
        λ i. is_watched lives (sym ((kind_decides a.kind kind).0 p.0) i) (sym ((bytes_decide a.name q).0 p.1) i)

    by : (w : Bool) → is_watched lives a.kind a.name ≡ w → (t : Bool) → is_for kind q a ≡ t
        → filter (is_for kind q) (arrivals_watched lives arrivals) ≡ cond (is_watched lives kind q) (filter (is_for kind q) arrivals) []
        → filter (is_for kind q) (cond w (a ∷ arrivals_watched lives arrivals) (arrivals_watched lives arrivals))
        ≡ cond (is_watched lives kind q) (cond t (a ∷ filter (is_for kind q) arrivals) (filter (is_for kind q) arrivals)) []
    by true e true f h =
        let on : is_watched lives kind q ≡ true = same f ∙ e in
        (λ i. cond (f i) (a ∷ filter (is_for kind q) (arrivals_watched lives arrivals)) (filter (is_for kind q) (arrivals_watched lives arrivals)))
        ∙ ap (λ (xs : List Arrived). a ∷ xs) (h ∙ (λ i. cond (on i) (filter (is_for kind q) arrivals) []))
        ∙ (λ i. cond (sym on i) (a ∷ filter (is_for kind q) arrivals) [])
    by true e false f h = (λ i. cond (f i) (a ∷ filter (is_for kind q) (arrivals_watched lives arrivals)) (filter (is_for kind q) (arrivals_watched lives arrivals))) ∙ h
    by false e true f h =
        let off : is_watched lives kind q ≡ false = same f ∙ e in
        h ∙ (λ i. cond (off i) (filter (is_for kind q) arrivals) []) ∙ (λ i. cond (sym off i) (a ∷ filter (is_for kind q) arrivals) [])
    by false e false f h = h

-- what is left of the results of one row and host
module _ (due : HealthResult → Bool) (d : Bool) (n : ℕ) (h : Host) (same : (r : HealthResult) → is_result_of n h r ≡ true → due r ≡ d) where
  results-left : (results : List HealthResult) → filter (is_result_of n h) (filter due results) ≡ cond d (filter (is_result_of n h) results) []
  results-left [] = both-same [] d
  results-left (r ∷ results) = by (due r) refl (is_result_of n h r) refl (results-left results)
    where
      by : (b : Bool) → due r ≡ b → (t : Bool) → is_result_of n h r ≡ t → filter (is_result_of n h) (filter due results) ≡ cond d (filter (is_result_of n h) results) []
          → filter (is_result_of n h) (cond b (r ∷ filter due results) (filter due results)) ≡ cond d (cond t (r ∷ filter (is_result_of n h) results) (filter (is_result_of n h) results)) []
      by true e true f rest =
          let on : d ≡ true = sym (same r f) ∙ e in
          (λ i. cond (f i) (r ∷ filter (is_result_of n h) (filter due results)) (filter (is_result_of n h) (filter due results)))
          ∙ ap (λ (xs : List HealthResult). r ∷ xs) (rest ∙ (λ i. cond (on i) (filter (is_result_of n h) results) []))
          ∙ (λ i. cond (sym on i) (r ∷ filter (is_result_of n h) results) [])
      by true e false f rest = (λ i. cond (f i) (r ∷ filter (is_result_of n h) (filter due results)) (filter (is_result_of n h) (filter due results))) ∙ rest
      by false e true f rest =
          let off : d ≡ false = sym (same r f) ∙ e in
          rest ∙ (λ i. cond (off i) (filter (is_result_of n h) results) []) ∙ (λ i. cond (sym off i) (r ∷ filter (is_result_of n h) results) [])
      by false e false f rest = rest

pub any-filtered : {A : Type 0} (p : A → Bool) (xs : List A) → list_any p (filter p xs) ≡ list_any p xs
any-filtered p [] = refl
any-filtered p (x ∷ xs) = by (p x) refl (any-filtered p xs)
  where
    by : (b : Bool) → p x ≡ b → list_any p (filter p xs) ≡ list_any p xs → list_any p (cond b (x ∷ filter p xs) (filter p xs)) ≡ (b || list_any p xs)
    by true e h = (λ i. e i || list_any p (filter p xs))
    by false e h = h

none-left : {A : Type 0} (p keep : A → Bool) (xs : List A) → list_any p xs ≡ false → list_any p (filter keep xs) ≡ false
none-left p keep [] h = refl
none-left p keep (x ∷ xs) h = by (p x) refl h (keep x) (none-left p keep xs)
  where
    by : (b : Bool) → p x ≡ b → (b || list_any p xs) ≡ false → (k : Bool) → (list_any p xs ≡ false → list_any p (filter keep xs) ≡ false)
        → list_any p (cond k (x ∷ filter keep xs) (filter keep xs)) ≡ false
    by true e h k rest = absurd (true≢false h)
    by false e h true rest = (λ i. e i || list_any p (filter keep xs)) ∙ rest h
    by false e h false rest = rest h

abbrev is_one : (GenRow → Bool) → ℕ → GenRow → Bool
is_one f n r = is_live r.status && nat_eq r.number n && f r

-- of rows with different numbers only the one of a number can pass a test that asks for it
any-numbered : (f : GenRow → Bool) (n : ℕ) (row : GenRow) (rows : List GenRow) → row_in n rows ≡ Some row → IsDistinct nat_eq (numbers_of rows)
    → list_any (is_one f n) rows ≡ (is_live row.status && f row)
any-numbered f n row rows at apart = by (is_live row.status && f row) refl
  where
    joined : (a c : Bool) → (a && true && c) ≡ (a && c)
    joined true c = refl
    joined false c = refl

    apart_too : (a c : Bool) → (a && false && c) ≡ false
    apart_too true c = refl
    apart_too false c = refl

    fails : (r : GenRow) → (is_live row.status && f row) ≡ false → (nat_eq n r.number ≡ true → r ≡ row) → (b : Bool) → nat_eq r.number n ≡ b → is_one f n r ≡ false
    fails r idle own true e =
        let same : r ≡ row = own (eq-eqb n r.number (sym (eqb-true r.number n e))) in
        (λ i. is_live r.status && e i && f r) ∙ joined (is_live r.status) (f r) ∙ (λ i. is_live (same i).status && f (same i)) ∙ idle
    fails r idle own false e = (λ i. is_live r.status && e i && f r) ∙ apart_too (is_live r.status) (f r)

    none : (rs : List GenRow) → (is_live row.status && f row) ≡ false → AllByRecursion (λ (r : GenRow). nat_eq n r.number ≡ true → r ≡ row) rs → list_any (is_one f n) rs ≡ false
    none [] idle all = refl
    none (r ∷ rs) idle all = (λ i. fails r idle all.0 (nat_eq r.number n) refl i || list_any (is_one f n) rs) ∙ none rs idle all.1

    by : (b : Bool) → (is_live row.status && f row) ≡ b → list_any (is_one f n) rows ≡ b
    by true e =
        let p = and_parts (is_live row.status) (f row) e in
        any-found (is_one f n) n row rows at
        (λ i. p.0 i && eq-eqb row.number n (number-row_in n row rows at) i && p.1 i)
    by false e = none rows e (all-found n row rows at apart)

-- a row that is there
pub there-is : (o : Option GenRow) → IsSome o → (row : GenRow) × (o ≡ Some row)
there-is None h = absurd (true≢false (sym h))
there-is (Some row) h = (row, refl)

module _ (s : State) (stale : List ℕ) (tidy : IsTidyBut s stale) (watches : WatchesKept)
    (forgot : (q : Key) → watch_in watches q ≡ cond (is_need_of s.table.rows stale q && is_idle s.table.rows q) unwatched (watch_in s.watches q))
    (results : ResultsKept)
    (trimmed : (n : ℕ) (h : Host) → result_in results n h ≡ cond (is_one_of stale n && loses_result s.watches h (row_in n s.table.rows)) None (result_in s.results n h))
    (unmarks : (n : ℕ) → marked_in results n ≡ cond (is_one_of stale n && is_some (row_in n s.table.rows)) None (marked_in s.results n))
    (world : World) (stands : HasRows s world) where
  abbrev arrivals : List Arrived
  arrivals = arrivals_watched (lives_of world) world.arrivals

  came-busy : (q : Key) → list_any (depends_on q) s.table.rows ≡ true → filter (is_for q.kind q.name) arrivals ≡ filter (is_for q.kind q.name) world.arrivals
  came-busy q e =
      left-for (lives_of world) world.arrivals q.kind q.name
      ∙ (λ i. cond ((watched-same s world stands q ∙ e) i) (filter (is_for q.kind q.name) world.arrivals) [])

  came-idle : (q : Key) → list_any (depends_on q) s.table.rows ≡ false → filter (is_for q.kind q.name) arrivals ≡ []
  came-idle q e =
      left-for (lives_of world) world.arrivals q.kind q.name
      ∙ (λ i. cond ((watched-same s world stands q ∙ e) i) (filter (is_for q.kind q.name) world.arrivals) [])

  busy : (q : Key) → list_any (depends_on q) s.table.rows ≡ true → watch_in watches q ≡ watch_in s.watches q
  busy q e = busy-same s.table.rows s.watches watches (is_need_of s.table.rows stale) forgot q e

  idle : (q : Key) → list_any (depends_on q) s.table.rows ≡ false → IsUnheard (watch_in watches q)
  idle q e = (tidy-forgot s stale tidy watches forgot results trimmed unmarks).marks q e refl

  told : (q : Key) → (watch_in watches q).told ≡ last_told arrivals q.kind q.name
  told q = by (list_any (depends_on q) s.table.rows) refl
    where
      by : (b : Bool) → list_any (depends_on q) s.table.rows ≡ b → (watch_in watches q).told ≡ last_told arrivals q.kind q.name
      by true e = (λ i. (busy q e i).told) ∙ stands.told q ∙ last_made-same is_word world.arrivals arrivals q.kind q.name (sym (came-busy q e))
      by false e = (idle q e).told ∙ last_made-same is_word [] arrivals q.kind q.name (sym (came-idle q e))

  timed : (q : Key) → (watch_in watches q).timed ≡ last_timed arrivals q.kind q.name
  timed q = by (list_any (depends_on q) s.table.rows) refl
    where
      by : (b : Bool) → list_any (depends_on q) s.table.rows ≡ b → (watch_in watches q).timed ≡ last_timed arrivals q.kind q.name
      by true e = (λ i. (busy q e i).timed) ∙ stands.timed q ∙ last_made-same is_timeout world.arrivals arrivals q.kind q.name (sym (came-busy q e))
      by false e = (idle q e).timed ∙ last_made-same is_timeout [] arrivals q.kind q.name (sym (came-idle q e))

  value : (q : Key) → (watch_in watches q).value ≡ value_by arrivals q.kind q.name
  value q = by (list_any (depends_on q) s.table.rows) refl
    where
      by : (b : Bool) → list_any (depends_on q) s.table.rows ≡ b → (watch_in watches q).value ≡ value_by arrivals q.kind q.name
      by true e = (λ i. (busy q e i).value) ∙ stands.value q ∙ value_by-same world.arrivals arrivals q.kind q.name (sym (came-busy q e))
      by false e = (idle q e).value ∙ value_by-same [] arrivals q.kind q.name (sym (came-idle q e))

  -- the machine keeps the results that the state keeps
  module _ (n : ℕ) (h : Host) (row : GenRow) (at : row_in n s.table.rows ≡ Some row) where
    due-same : (r : HealthResult) → is_result_of n h r ≡ true → is_result_due arrivals world.rows r ≡ keeps_result watches h row
    due-same r e =
        let p = and_parts (nat_eq r.number n) (host_same r.host h) e in
        (λ i. list_any (λ (other : GenRow). is_live other.status && nat_eq other.number (eqb-true r.number n p.0 i) && has_host ((host_decides r.host h).0 p.1 i) (assignment_by arrivals other.content)) world.rows)
        ∙ any-numbered (λ (other : GenRow). has_host h (assignment_by arrivals other.content)) n row world.rows
        ((λ i. row_in n (sym stands.rows i)) ∙ at) stands.sound.table.apart
        ∙ (λ i. is_live row.status && has_host h (sym (hosts-by watches arrivals value row.content) i))

    left : filter (is_result_of n h) (filter (is_result_due arrivals world.rows) world.results) ≡ cond (keeps_result watches h row) (filter (is_result_of n h) world.results) []
    left = results-left (is_result_due arrivals world.rows) (keeps_result watches h row) n h due-same world.results

    kept : keeps_result watches h row ≡ true → result_in results n h ≡ result_in s.results n h
    kept k =
        let was : loses_result s.watches h (row_in n s.table.rows) ≡ false =
        sym (loses-same s.table.rows s.watches watches (is_need_of s.table.rows stale) forgot n h) ∙ (λ i. loses_result watches h (at i)) ∙ ap not k in
        trimmed n h ∙ (λ i. cond (is_one_of stale n && was i) None (result_in s.results n h)) ∙ by (is_one_of stale n)
      where
        by : (b : Bool) → cond (b && false) None (result_in s.results n h) ≡ result_in s.results n h
        by true = refl
        by false = refl

    lost : keeps_result watches h row ≡ false → result_in results n h ≡ None
    lost k = (tidy-forgot s stale tidy watches forgot results trimmed unmarks).results n row h at refl k

    resulted : is_some (result_in results n h) ≡ has_result (filter (is_result_due arrivals world.rows) world.results) n h
    resulted =
        by (keeps_result watches h row) refl
        ∙ sym (sym (any-filtered (is_result_of n h) (filter (is_result_due arrivals world.rows) world.results)) ∙ ap (list_any (is_result_of n h)) left)
      where
        by : (k : Bool) → keeps_result watches h row ≡ k → is_some (result_in results n h) ≡ list_any (is_result_of n h) (cond k (filter (is_result_of n h) world.results) [])
        by true k = ap is_some (kept k) ∙ stands.resulted n h (subst IsSome (sym at) refl) ∙ sym (any-filtered (is_result_of n h) world.results)
        by false k = ap is_some (lost k)

    healthy : unwrap_or (result_in results n h) false ≡ is_healthy (filter (is_result_due arrivals world.rows) world.results) n h
    healthy =
        by (keeps_result watches h row) refl
        ∙ sym (ap (λ (xs : List HealthResult). unwrap_or (last_or None (map (λ (r : HealthResult). r.healthy) xs)) false) left)
      where
        by : (k : Bool) → keeps_result watches h row ≡ k
            → unwrap_or (result_in results n h) false ≡ unwrap_or (last_or None (map (λ (r : HealthResult). r.healthy) (cond k (filter (is_result_of n h) world.results) []))) false
        by true k = (λ i. unwrap_or (kept k i) false) ∙ stands.healthy n h (subst IsSome (sym at) refl)
        by false k = (λ i. unwrap_or (lost k i) false)

  pub forgot-stands : HasRows (record s { watches = watches; results = results }) (without_old_results (without_unwatched world))
  forgot-stands = record {
    sound = record {
      table = stands.sound.table;
      typed = stands.sound.typed;
      named = stands.sound.named;
      heard = λ n h above. none-left (is_result_of n h) (is_result_due arrivals world.rows) world.results (stands.sound.heard n h above);
    };
    rows = stands.rows;
    made = stands.made;
    told = told;
    timed = timed;
    value = value;
    resulted = λ n h there. let found = there-is (row_in n s.table.rows) there in resulted n h found.0 found.1;
    healthy = λ n h there. let found = there-is (row_in n s.table.rows) there in healthy n h found.0 found.1;
  }
