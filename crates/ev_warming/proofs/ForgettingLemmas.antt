-- What forgetting does to a state: no live row looks at what goes, so the indexes stay searches of the rows.
use Rattle.std.proofs.Common.{◌≡◌, ◌∙◌, ◌<◌, ℕ, Bool, true, false, cond, not, ◌&&◌, ◌||◌, nat_eq, List, [], ◌∷◌, Option, None, Some, IfSome, is_some, filter, refl, sym, ap, subst, true≢false, ◌+◌, take, get_or, length, ◌++◌}
use Rattle.std.specs.List.{list_any, AllByRecursion}
use Rattle.std.proofs.lemmas.Bool.{eqb-true, not-true, or_right}
use Rattle.std.proofs.lemmas.List.Folds.{list_any_more, list_any-append}
use Rattle.ev_types.specs.Hosts.{HostRowParts}
use Rattle.ev_types.specs.SameHosts.{host_same, host_decides, has_host}
use Rattle.ev_types.specs.Statuses.{is_warming, is_live}
use Rattle.ev_types.specs.declared.hosts.Host.{Host}
use Rattle.ev_types.specs.declared.rows.GenRow.{GenRow}
use Rattle.ev_model.specs.Warming.{is_checked}
use Rattle.ev_model.specs.Watching.{dependencies_of, Dependency}
use Rattle.ev_indexes.specs.KeptEndpoints.{ResultsKept, marked_in, result_in}
use Rattle.ev_indexes.specs.Tables.{row_in, numbers_of}
use Rattle.ev_indexes.proofs.TableLemmas.{number-row_in}
use Rattle.ev_lookups.specs.declared.kind_keys.Key.{Key}
use Rattle.ev_indexes.specs.declared.watches.Watch.{Watch}
use Rattle.ev_indexes.specs.declared.state.State.{State}
use Rattle.ev_indexes.specs.Watched.{WatchesKept, unwatched, watch_in, has_watcher}
use Rattle.ev_indexes.specs.Ready.{assignment_in, are_results_in, is_answered_in, is_ready_in, is_due_found, is_due_at}
use Rattle.ev_indexes.specs.Indexes.{IsAssignmentOf, IsIndexed, depends_on, waits, numbers_where}
use Rattle.ev_indexes.specs.Due.{is_one_of}
use Rattle.ev_indexes.specs.Needs.{is_needed, is_on}
use Rattle.ev_warming.specs.Forgetting.{needs_in, is_need_of, is_idle, keeps_result, loses_result, IsUnheard, IsTidyBut}
use Rattle.ev_indexes.proofs.WhereLemmas.{any-found, flipped}
use Rattle.ev_indexes.proofs.WaitLemmas.{waits-depends, watcher-index}
use Rattle.ev_warming.proofs.ReadyLemmas.{Agrees, assignment_in-agrees, is_ready_in-agrees, AgreesOn, agrees-needed}
use Rattle.ev_warming.proofs.IndexLemmas.{live-warming}

-- where none passes, no number is among those that pass
pub where-none : (test : GenRow → Bool) (rows : List GenRow) → list_any test rows ≡ false → numbers_where test rows ≡ []
where-none test [] none = refl
where-none test (row ∷ rows) none = by (test row) none (where-none test rows)
  where
    by : (b : Bool) → (b || list_any test rows) ≡ false → (list_any test rows ≡ false → numbers_where test rows ≡ [])
        → numbers_of (cond b (row ∷ filter test rows) (filter test rows)) ≡ []
    by true h rest = absurd (true≢false h)
    by false h rest = rest h

-- a narrower test passes no more
any-less : (f g : GenRow → Bool) → ((r : GenRow) → g r ≡ true → f r ≡ true) → (rows : List GenRow) → list_any f rows ≡ false → list_any g rows ≡ false
any-less f g less [] none = refl
any-less f g less (row ∷ rows) none = by (f row) refl none (g row) refl (any-less f g less rows)
  where
    by : (a : Bool) → f row ≡ a → (a || list_any f rows) ≡ false → (b : Bool) → g row ≡ b → (list_any f rows ≡ false → list_any g rows ≡ false) → (b || list_any g rows) ≡ false
    by true e h b d rest = absurd (true≢false h)
    by false e h true d rest = absurd (true≢false (sym (less row d) ∙ e))
    by false e h false d rest = rest h

all-map : {X : Type 0} (P Q : X → Type 0) → ((x : X) → P x → Q x) → (xs : List X) → AllByRecursion P xs → AllByRecursion Q xs
all-map P Q f [] all = tt
all-map P Q f (x ∷ xs) all = (f x all.0, all-map P Q f xs all.1)

-- each of these hosts is among them
hosts-own : (hosts : List HostRowParts) → AllByRecursion (λ (h : HostRowParts). has_host h.host hosts ≡ true) hosts
hosts-own [] = tt
hosts-own (h ∷ hosts) = (ap (λ b. b || has_host h.host hosts) ((host_decides h.host h.host).1 refl), more hosts (hosts-own hosts))
  where
    more : (hs : List HostRowParts) → AllByRecursion (λ (x : HostRowParts). has_host x.host hosts ≡ true) hs → AllByRecursion (λ (x : HostRowParts). has_host x.host (h ∷ hosts) ≡ true) hs
    more [] all = tt
    more (x ∷ hs) all = (or_right (host_same h.host x.host) (has_host x.host hosts) all.0, more hs all.1)

results-same : (old new : ResultsKept) (n : ℕ) (hosts : List HostRowParts) → AllByRecursion (λ (h : HostRowParts). result_in new n h.host ≡ result_in old n h.host) hosts
    → are_results_in new n hosts ≡ are_results_in old n hosts
results-same old new n [] all = refl
results-same old new n (h ∷ hosts) all = λ i. is_some (all.0 i) && results-same old new n hosts all.1 i

agrees-same : (old new : WatchesKept) (q : Key) → watch_in new q ≡ watch_in old q → Agrees old new q
agrees-same old new q e = record { told = λ i. (e i).told; timed = λ i. (e i).timed; value = λ i. (e i).value }

-- names go that no live row depends on
module _ (rows : List GenRow) (old new : WatchesKept) (test : Key → Bool)
    (forgot : (q : Key) → watch_in new q ≡ cond (test q && is_idle rows q) unwatched (watch_in old q)) where
  -- a name that a live row depends on is known as before
  pub busy-same : (q : Key) → list_any (depends_on q) rows ≡ true → watch_in new q ≡ watch_in old q
  busy-same q busy = forgot q ∙ (λ i. cond (test q && not (busy i)) unwatched (watch_in old q)) ∙ by (test q)
    where
      by : (b : Bool) → cond (b && false) unwatched (watch_in old q) ≡ watch_in old q
      by true = refl
      by false = refl

  need-same : (n : ℕ) (r : GenRow) → row_in n rows ≡ Some r → is_live r.status ≡ true → AgreesOn old new (dependencies_of r.content)
  need-same n r at live =
      agrees-needed old new (dependencies_of r.content)
      (λ q needs. agrees-same old new q (busy-same q (any-found (depends_on q) n r rows at (λ i. live i && needs i))))

  -- the same results are kept
  pub loses-same : (n : ℕ) (host : Host) → loses_result new host (row_in n rows) ≡ loses_result old host (row_in n rows)
  loses-same n host = by (row_in n rows) refl
    where
      over : (r : GenRow) → row_in n rows ≡ Some r → (l : Bool) → is_live r.status ≡ l
          → not (l && has_host host (assignment_in new r.content)) ≡ not (l && has_host host (assignment_in old r.content))
      over r at false e = refl
      over r at true e = λ i. not (has_host host (assignment_in-agrees old new r.content (need-same n r at e) i))

      by : (o : Option GenRow) → row_in n rows ≡ o → loses_result new host o ≡ loses_result old host o
      by None at = refl
      by (Some r) at = over r at (is_live r.status) refl

-- what nobody needs any more of one row went
module _ (s : State) (number : ℕ) (row : GenRow) (x : IsIndexed s) (found : row_in number s.table.rows ≡ Some row)
    (watches : WatchesKept)
    (forgot : (q : Key) → watch_in watches q ≡ cond (is_needed q (dependencies_of row.content) && is_idle s.table.rows q) unwatched (watch_in s.watches q))
    (results : ResultsKept)
    (trimmed : (n : ℕ) (h : Host) → result_in results n h ≡ cond (nat_eq number n && not (keeps_result s.watches h row)) None (result_in s.results n h))
    (unmarks : (n : ℕ) → marked_in results n ≡ cond (nat_eq number n) None (marked_in s.results n)) where
  own_row : (n : ℕ) (r : GenRow) → row_in n s.table.rows ≡ Some r → nat_eq number r.number ≡ true → r ≡ row
  own_row n r at e =
      let same : n ≡ number = sym (number-row_in n r s.table.rows at) ∙ sym (eqb-true number r.number e) in
      let both : Some r ≡ Some row = sym at ∙ (λ i. row_in (same i) s.table.rows) ∙ found in
      cc

  -- the results of a live row's own hosts stay
  round : (n : ℕ) (r : GenRow) → row_in n s.table.rows ≡ Some r → is_live r.status ≡ true
      → are_results_in results r.number (assignment_in s.watches r.content) ≡ are_results_in s.results r.number (assignment_in s.watches r.content)
  round n r at live =
      results-same s.results results r.number (assignment_in s.watches r.content)
      (all-map (λ (h : HostRowParts). has_host h.host (assignment_in s.watches r.content) ≡ true) (λ (h : HostRowParts). result_in results r.number h.host ≡ result_in s.results r.number h.host)
      (λ h own. trimmed r.number h.host ∙ by h own (nat_eq number r.number) refl) (assignment_in s.watches r.content) (hosts-own (assignment_in s.watches r.content)))
    where
      by : (h : HostRowParts) → has_host h.host (assignment_in s.watches r.content) ≡ true → (b : Bool) → nat_eq number r.number ≡ b
          → cond (b && not (keeps_result s.watches h.host row)) None (result_in s.results r.number h.host) ≡ result_in s.results r.number h.host
      by h own false e = refl
      by h own true e =
          let kept : keeps_result s.watches h.host row ≡ true = (λ i. keeps_result s.watches h.host (sym (own_row n r at e) i)) ∙ (λ i. live i && own i) in
          λ i. cond (not (kept i)) None (result_in s.results r.number h.host)

  due_same : (n : ℕ) → is_due_at watches results n s.table.rows ≡ is_due_at s.watches s.results n s.table.rows
  due_same n = by (row_in n s.table.rows) refl
    where
      over : (r : GenRow) → row_in n s.table.rows ≡ Some r → (w : Bool) → is_warming r.status ≡ w → (w && is_ready_in watches results r) ≡ (w && is_ready_in s.watches s.results r)
      over r at false e = refl
      over r at true e =
          is_ready_in-agrees s.watches watches results r (need-same s.table.rows s.watches watches (λ q. is_needed q (dependencies_of row.content)) forgot n r at (live-warming r.status e))
          ∙ (λ i. is_answered_in s.watches r.number r.content && (not (is_checked r.content) || round n r at (live-warming r.status e) i))

      by : (o : Option GenRow) → row_in n s.table.rows ≡ o → is_due_found watches results o ≡ is_due_found s.watches s.results o
      by None at = refl
      by (Some r) at = over r at (is_warming r.status) refl

  stays : (test : GenRow → Bool) (q : Key) (f : Watch → List ℕ) → f unwatched ≡ [] → f (watch_in s.watches q) ≡ numbers_where test s.table.rows
      → ((r : GenRow) → test r ≡ true → depends_on q r ≡ true) → f (watch_in watches q) ≡ numbers_where test s.table.rows
  stays test q f empty index narrower = ap f (forgot q) ∙ by (is_needed q (dependencies_of row.content)) (list_any (depends_on q) s.table.rows) refl
    where
      by : (a b : Bool) → list_any (depends_on q) s.table.rows ≡ b → f (cond (a && not b) unwatched (watch_in s.watches q)) ≡ numbers_where test s.table.rows
      by false b e = index
      by true true e = index
      by true false e = empty ∙ sym (where-none test s.table.rows (any-less (depends_on q) test narrower s.table.rows e))

  undrawn : {A : Type 0} (b : Bool) (o : Option A) → o ≡ None → cond b None o ≡ None
  undrawn true o e = refl
  undrawn false o e = e

  pub indexed-forgot : IsIndexed (record s { watches = watches; results = results })
  indexed-forgot = record {
    table = x.table;
    active = x.active;
    warming = x.warming;
    unlimited = λ q. stays (waits q false) q (λ (w : Watch). w.unlimited) refl (x.unlimited q) (λ r h. waits-depends q false r h);
    limited = λ q. stays (waits q true) q (λ (w : Watch). w.limited) refl (x.limited q) (λ r h. waits-depends q true r h);
    holders = x.holders;
    due = λ n. x.due n ∙ sym (due_same n);
    drawn = λ n h above. trimmed n h ∙ undrawn (nat_eq number n && not (keeps_result s.watches h row)) (result_in s.results n h) (x.drawn n h above);
    unmarked = λ n above. unmarks n ∙ undrawn (nat_eq number n) (marked_in s.results n) (x.unmarked n above);
  }

-- one more of the rows was looked at
pub cond_more : {A : Type 0} (a b d : Bool) (u v : A) → cond (b && d) u (cond (a && d) u v) ≡ cond ((a || b) && d) u v
cond_more true true true u v = refl
cond_more true true false u v = refl
cond_more true false true u v = refl
cond_more true false false u v = refl
cond_more false true true u v = refl
cond_more false true false u v = refl
cond_more false false true u v = refl
cond_more false false false u v = refl

-- all that nobody needs any more of these rows went
module _ (s : State) (stale : List ℕ) (tidy : IsTidyBut s stale) (watches : WatchesKept)
    (forgot : (q : Key) → watch_in watches q ≡ cond (is_need_of s.table.rows stale q && is_idle s.table.rows q) unwatched (watch_in s.watches q))
    (results : ResultsKept)
    (trimmed : (n : ℕ) (h : Host) → result_in results n h ≡ cond (is_one_of stale n && loses_result s.watches h (row_in n s.table.rows)) None (result_in s.results n h))
    (unmarks : (n : ℕ) → marked_in results n ≡ cond (is_one_of stale n && is_some (row_in n s.table.rows)) None (marked_in s.results n)) where
  pub tidy-forgot : IsTidyBut (record s { watches = watches; results = results }) []
  tidy-forgot = record {
    marks = λ q none no. marks q none (is_need_of s.table.rows stale q) refl;
    results = λ n row h at no lost. gone n row h at lost (is_one_of stale n) refl;
    marked = λ n no row at live.
        subst (λ (o : Option (List HostRowParts)). IfSome o (IsAssignmentOf watches row.content))
        (sym (unmarks n ∙ (λ i. cond (is_one_of stale n && is_some (at i)) None (marked_in s.results n)))) (still n row at live (is_one_of stale n) refl);
  }
    where
      still : (n : ℕ) (row : GenRow) → row_in n s.table.rows ≡ Some row → is_live row.status ≡ true → (b : Bool) → is_one_of stale n ≡ b
          → IfSome (cond (b && true) None (marked_in s.results n)) (IsAssignmentOf watches row.content)
      still n row at live true e = tt
      still n row at live false e =
          subst (λ (rows : List HostRowParts → Type 0). IfSome (marked_in s.results n) rows)
          (λ i. λ (rows : List HostRowParts). (is_checked row.content ≡ true)
          × (rows ≡ sym (assignment_in-agrees s.watches watches row.content (need-same s.table.rows s.watches watches (is_need_of s.table.rows stale) forgot n row at live)) i))
          (tidy.marked n e row at live)

      marks : (q : Key) → list_any (depends_on q) s.table.rows ≡ false → (b : Bool) → is_need_of s.table.rows stale q ≡ b → IsUnheard (watch_in watches q)
      marks q none true e =
          subst IsUnheard (sym (forgot q ∙ (λ i. cond (e i && not (none i)) unwatched (watch_in s.watches q)))) (record { told = refl; timed = refl; value = refl })
      marks q none false e =
          subst IsUnheard (sym (forgot q ∙ (λ i. cond (e i && is_idle s.table.rows q) unwatched (watch_in s.watches q)))) (tidy.marks q none e)

      gone : (n : ℕ) (row : GenRow) (h : Host) → row_in n s.table.rows ≡ Some row → keeps_result watches h row ≡ false → (b : Bool) → is_one_of stale n ≡ b → result_in results n h ≡ None
      gone n row h at lost b e =
          let was : loses_result s.watches h (row_in n s.table.rows) ≡ true =
          sym (loses-same s.table.rows s.watches watches (is_need_of s.table.rows stale) forgot n h) ∙ (λ i. loses_result watches h (at i)) ∙ ap not lost in
          trimmed n h ∙ (λ i. cond (e i && was i) None (result_in s.results n h))
          ∙ by b e (not-true (keeps_result s.watches h row) ((λ i. loses_result s.watches h (sym at i)) ∙ was))
        where
          by : (b : Bool) → is_one_of stale n ≡ b → keeps_result s.watches h row ≡ false → cond (b && true) None (result_in s.results n h) ≡ None
          by true e lost = refl
          by false e lost = tidy.results n row h at e lost

-- the step of forgetting, row by row
pub watch-more : (rows : List GenRow) (old now new : WatchesKept) (stale : List ℕ) (i number : ℕ) → i < length stale → number ≡ get_or stale i number
    → ((q : Key) → watch_in now q ≡ cond (is_need_of rows (take i stale) q && is_idle rows q) unwatched (watch_in old q))
    → ((q : Key) → watch_in new q ≡ cond (is_needed q (needs_in (row_in number rows)) && is_idle rows q) unwatched (watch_in now q))
    → (q : Key) → watch_in new q ≡ cond (is_need_of rows (take (i + 1) stale) q && is_idle rows q) unwatched (watch_in old q)
watch-more rows old now new stale i number within is before step q =
    step q
    ∙ (λ j. cond (is_needed q (needs_in (row_in number rows)) && is_idle rows q) unwatched (before q j))
    ∙ cond_more (is_need_of rows (take i stale) q) (is_needed q (needs_in (row_in number rows))) (is_idle rows q) unwatched (watch_in old q)
    ∙ (λ j. cond (sym one j && is_idle rows q) unwatched (watch_in old q))
  where
    one : is_need_of rows (take (i + 1) stale) q ≡ (is_need_of rows (take i stale) q || is_needed q (needs_in (row_in number rows)))
    one =
        list_any_more (λ n. is_needed q (needs_in (row_in n rows))) stale i number within
        ∙ (λ j. is_need_of rows (take i stale) q || is_needed q (needs_in (row_in (sym is j) rows)))

pub result-more : (rows : List GenRow) (watches now : WatchesKept) (old mid new : ResultsKept) (stale : List ℕ) (i number : ℕ) → i < length stale → number ≡ get_or stale i number
    → ((q : Key) → watch_in now q ≡ cond (is_need_of rows (take i stale) q && is_idle rows q) unwatched (watch_in watches q))
    → ((n : ℕ) (h : Host) → result_in mid n h ≡ cond (is_one_of (take i stale) n && loses_result watches h (row_in n rows)) None (result_in old n h))
    → ((n : ℕ) (h : Host) → result_in new n h ≡ cond (nat_eq number n && loses_result now h (row_in n rows)) None (result_in mid n h))
    → (n : ℕ) (h : Host) → result_in new n h ≡ cond (is_one_of (take (i + 1) stale) n && loses_result watches h (row_in n rows)) None (result_in old n h)
result-more rows watches now old mid new stale i number within is forgot before step n h =
    step n h
    ∙ (λ j. cond (nat_eq number n && loses-same rows watches now (is_need_of rows (take i stale)) forgot n h j) None (before n h j))
    ∙ cond_more (is_one_of (take i stale) n) (nat_eq number n) (loses_result watches h (row_in n rows)) None (result_in old n h)
    ∙ (λ j. cond (sym one j && loses_result watches h (row_in n rows)) None (result_in old n h))
  where
    one : is_one_of (take (i + 1) stale) n ≡ (is_one_of (take i stale) n || nat_eq number n)
    one =
        list_any_more (nat_eq n) stale i number within
        ∙ (λ j. is_one_of (take i stale) n || nat_eq n (sym is j))
        ∙ (λ j. is_one_of (take i stale) n || flipped n number j)

-- a name is idle where no number is in its index
pub idle-index : (s : State) → IsIndexed s → (q : Key) → not (has_watcher (watch_in s.watches q)) ≡ is_idle s.table.rows q
idle-index s x q = ap not (watcher-index s x q)

-- some are forgotten, and then more
pub forgets-more : (q : Key) (ds es : List Dependency) (old now new : Watch)
    → now ≡ cond (is_needed q ds && not (has_watcher old)) unwatched old
    → new ≡ cond (is_needed q es && not (has_watcher now)) unwatched now
    → new ≡ cond (is_needed q (ds ++ es) && not (has_watcher old)) unwatched old
forgets-more q ds es old now new first second =
    second
    ∙ (λ i. cond (is_needed q es && not (has_watcher (first i))) unwatched (first i))
    ∙ by (is_needed q ds) (is_needed q es) (has_watcher old) refl
    ∙ (λ i. cond (sym (list_any-append (is_on q) ds es) i && not (has_watcher old)) unwatched old)
  where
    by : (a b w : Bool) → has_watcher old ≡ w
        → cond (b && not (has_watcher (cond (a && not w) unwatched old))) unwatched (cond (a && not w) unwatched old) ≡ cond ((a || b) && not w) unwatched old
    by true true true e = λ i. cond (not (e i)) unwatched old
    by true true false e = refl
    by true false true e = refl
    by true false false e = refl
    by false true w e = λ i. cond (not (e i)) unwatched old
    by false false w e = refl

-- the results that one row loses
pub loses-at : (rows : List GenRow) (watches : WatchesKept) (number : ℕ) (row : GenRow) → row_in number rows ≡ Some row → (n : ℕ) (h : Host)
    → (nat_eq number n && not (keeps_result watches h row)) ≡ (nat_eq number n && loses_result watches h (row_in n rows))
loses-at rows watches number row found n h = by (nat_eq number n) refl
  where
    by : (b : Bool) → nat_eq number n ≡ b → (b && not (keeps_result watches h row)) ≡ (b && loses_result watches h (row_in n rows))
    by true e = (λ i. loses_result watches h (sym found i)) ∙ (λ i. loses_result watches h (row_in (eqb-true number n e i) rows))
    by false e = refl

pub mark-more : (rows : List GenRow) (old mid new : ResultsKept) (stale : List ℕ) (i number : ℕ) → i < length stale → number ≡ get_or stale i number
    → ((n : ℕ) → marked_in mid n ≡ cond (is_one_of (take i stale) n && is_some (row_in n rows)) None (marked_in old n))
    → ((n : ℕ) → marked_in new n ≡ cond (nat_eq number n && is_some (row_in n rows)) None (marked_in mid n))
    → (n : ℕ) → marked_in new n ≡ cond (is_one_of (take (i + 1) stale) n && is_some (row_in n rows)) None (marked_in old n)
mark-more rows old mid new stale i number within is before step n =
    step n
    ∙ (λ j. cond (nat_eq number n && is_some (row_in n rows)) None (before n j))
    ∙ cond_more (is_one_of (take i stale) n) (nat_eq number n) (is_some (row_in n rows)) None (marked_in old n)
    ∙ (λ j. cond (sym one j && is_some (row_in n rows)) None (marked_in old n))
  where
    one : is_one_of (take (i + 1) stale) n ≡ (is_one_of (take i stale) n || nat_eq number n)
    one =
        list_any_more (nat_eq n) stale i number within
        ∙ (λ j. is_one_of (take i stale) n || nat_eq n (sym is j))
        ∙ ap (λ b. is_one_of (take i stale) n || b) (flipped n number)
