-- What each step does to the indexes: they stay searches of the rows.
use Rattle.std.proofs.Common.{◌≡◌, ◌∙◌, ◌<◌, ℕ, Bool, true, false, cond, not, ◌&&◌, nat_eq, List, Option, None, Some, IsSome, option_to_list, refl, sym, ap, subst, true≢false, Result, Ok, Err, OnOk, ◌++◌}
use Rattle.std.specs.List.{list_any}
use Rattle.std.specs.Map.{lookup}
use Rattle.std.proofs.lemmas.Bool.{false_from_ne_true, and_right, and_parts}
use Rattle.ev_types.specs.Statuses.{is_warming, is_active, is_live}
use Rattle.ev_types.specs.declared.rows.Arrival.{Arrival}
use Rattle.ev_types.specs.declared.rows.Arrival.TheVariants.{Value, Absent, Bad, TimedOut, Ended}
use Rattle.ev_types.specs.declared.rows.RowStatus.{RowStatus}
use Rattle.ev_types.specs.declared.rows.RowStatus.TheVariants.{Warming, Active, Draining, Dropped}
use Rattle.ev_types.specs.declared.hosts.SocketAddress.{SocketAddress}
use Rattle.ev_types.specs.declared.rows.GenRow.{GenRow}
use Rattle.ev_model.specs.Rows.{removed_status}
use Rattle.ev_model.specs.Watching.{dependencies_of}
use Rattle.ev_indexes.specs.KeptEndpoints.{ResultsKept}
use Rattle.ev_indexes.specs.Tables.{GenerationsParts, IsTable, row_in, with_status}
use Rattle.ev_indexes.proofs.TableLemmas.{table-with_status}
use Rattle.ev_lookups.specs.Keys.{key_same, key_decides}
use Rattle.ev_lookups.specs.declared.kind_keys.Key.{Key}
use Rattle.ev_indexes.specs.declared.names.Standing.{Standing}
use Rattle.ev_indexes.specs.declared.watches.Watch.{Watch}
use Rattle.ev_indexes.specs.declared.state.State.{State}
use Rattle.ev_indexes.specs.Addresses.{AddressesKept, ReleasesAddress, listens_at, numbers_at}
use Rattle.ev_indexes.specs.Due.{is_one_of}
use Rattle.ev_indexes.specs.Kept.{Sets}
use Rattle.ev_indexes.specs.Standings.{NamesKept, nobody, standing_in}
use Rattle.ev_indexes.specs.Watched.{WatchesKept, unwatched, watch_in, watched_less, with_arrival, numbers_without, has_watcher, watchers_of, unwatched_for}
use Rattle.ev_indexes.specs.Ready.{is_ready_in, is_due_found, is_due_at}
use Rattle.ev_indexes.specs.Indexes.{IsIndexed, is_of, key_of_row, depends_on, waits, serves, warms, holds, numbers_where, numbers_waiting}
use Rattle.ev_indexes.specs.Needs.{is_needed, is_needed_so}
use Rattle.ev_indexes.proofs.KeptLemmas.{kept_at-found}
use Rattle.ev_indexes.proofs.WhereLemmas.{row_with, among-where, where-left, where-absent, where-kept, where-one, without-one}
use Rattle.ev_indexes.proofs.WaitLemmas.{watcher-index, watchers-index, among-depends, depends-waits}
use Rattle.ev_warming.proofs.ReadyLemmas.{Agrees, is_ready_in-agrees, is_due_at-with_status, agrees-other, agrees-all}

own_key : (row : GenRow) → is_of (key_of_row row) row ≡ true
own_key row = (key_decides (key_of_row row) (key_of_row row)).1 refl

pub live-warming : (status : RowStatus) → is_warming status ≡ true → is_live status ≡ true
live-warming Warming h = refl
live-warming Active h = absurd (true≢false (sym h))
live-warming Draining h = absurd (true≢false (sym h))
live-warming Dropped h = absurd (true≢false (sym h))

-- a live row's name has an entry
pub named-live : (s : State) (number : ℕ) (row : GenRow) → IsIndexed s → row_in number s.table.rows ≡ Some row → is_live row.status ≡ true → IsSome (lookup (key_same (key_of_row row)) s.names)
named-live s number row x found live = by (lookup (key_same (key_of_row row)) s.names) refl
  where
    nothing : (test : GenRow → Bool) (o : Option ℕ) → option_to_list o ≡ numbers_where test s.table.rows → o ≡ None → test row ≡ true → ⊥
    nothing test o index none passes =
        true≢false (sym (among-where test number row s.table.rows found passes) ∙ (λ i. is_one_of (sym index i) number) ∙ (λ i. is_one_of (option_to_list (none i)) number))

    empty : lookup (key_same (key_of_row row)) s.names ≡ None → (status : RowStatus) → row.status ≡ status → is_live status ≡ true → ⊥
    empty none Warming e h =
        nothing (warms (key_of_row row)) (standing_in s.names (key_of_row row)).warming (x.warming (key_of_row row)) (λ i. (kept_at-found nobody s.names (key_of_row row) None none i).warming)
        (λ i. is_warming (e i) && own_key row i)
    empty none Active e h =
        nothing (serves (key_of_row row)) (standing_in s.names (key_of_row row)).active (x.active (key_of_row row)) (λ i. (kept_at-found nobody s.names (key_of_row row) None none i).active)
        (λ i. is_active (e i) && own_key row i)
    empty none Draining e h = true≢false (sym h)
    empty none Dropped e h = true≢false (sym h)

    by : (o : Option Standing) → lookup (key_same (key_of_row row)) s.names ≡ o → IsSome o
    by None e = absurd (empty e row.status refl live)
    by (Some standing) e = refl

-- a name that a live row depends on has an entry
pub watched-some : (s : State) (key : Key) → IsIndexed s → list_any (depends_on key) s.table.rows ≡ true → IsSome (lookup (key_same key) s.watches)
watched-some s key x any = by (lookup (key_same key) s.watches) refl
  where
    by : (o : Option Watch) → lookup (key_same key) s.watches ≡ o → IsSome o
    by None e = absurd (true≢false (sym any ∙ sym (watcher-index s x key) ∙ (λ i. has_watcher (kept_at-found unwatched s.watches key None e i))))
    by (Some watch) e = refl

unlimited-with_arrival : (made : ℕ) (arrival : Arrival) (watch : Watch) → (with_arrival made arrival watch).unlimited ≡ watch.unlimited
unlimited-with_arrival made (Value content) watch = refl
unlimited-with_arrival made Absent watch = refl
unlimited-with_arrival made Bad watch = refl
unlimited-with_arrival made TimedOut watch = refl
unlimited-with_arrival made (Ended content) watch = refl

limited-with_arrival : (made : ℕ) (arrival : Arrival) (watch : Watch) → (with_arrival made arrival watch).limited ≡ watch.limited
limited-with_arrival made (Value content) watch = refl
limited-with_arrival made Absent watch = refl
limited-with_arrival made Bad watch = refl
limited-with_arrival made TimedOut watch = refl
limited-with_arrival made (Ended content) watch = refl

-- something was received for a name, and its rows were looked at anew
module _ (s : State) (key : Key) (made : ℕ) (arrival : Arrival) (watches : WatchesKept) (x : IsIndexed s)
    (sets : Sets unwatched s.watches watches key (with_arrival made arrival (watch_in s.watches key))) where
  part : {A : Type 0} (f : Watch → A) → ((watch : Watch) → f (with_arrival made arrival watch) ≡ f watch) → (q : Key) → f (watch_in watches q) ≡ f (watch_in s.watches q)
  part f stays q = ap f (sets q) ∙ by (key_same key q) refl
    where
      by : (b : Bool) → key_same key q ≡ b → f (cond b (with_arrival made arrival (watch_in s.watches key)) (watch_in s.watches q)) ≡ f (watch_in s.watches q)
      by true e = stays (watch_in s.watches key) ∙ (λ i. f (watch_in s.watches ((key_decides key q).0 e i)))
      by false e = refl

  other : (q : Key) → key_same q key ≡ false → Agrees s.watches watches q
  other q apart =
      let far : key_same key q ≡ false = false_from_ne_true (key_same key q) (λ h. true≢false (sym ((key_decides q key).1 (sym ((key_decides key q).0 h))) ∙ apart)) in
      let same : watch_in watches q ≡ watch_in s.watches q = sets q ∙ (λ i. cond (far i) (with_arrival made arrival (watch_in s.watches key)) (watch_in s.watches q)) in
      record { told = λ i. (same i).told; timed = λ i. (same i).timed; value = λ i. (same i).value }

  elsewhere : (n : ℕ) → is_one_of (numbers_waiting s.table.rows key) n ≡ false → is_due_at watches s.results n s.table.rows ≡ is_due_at s.watches s.results n s.table.rows
  elsewhere n away = by (row_in n s.table.rows) refl
    where
      over : (row : GenRow) → row_in n s.table.rows ≡ Some row → (w : Bool) → is_warming row.status ≡ w → (needs : Bool) → is_needed key (dependencies_of row.content) ≡ needs
          → (w && is_ready_in watches s.results row) ≡ (w && is_ready_in s.watches s.results row)
      over row e false cold needs f = refl
      over row e true warm true f =
          absurd (true≢false (sym (among-depends key n row s.table.rows e (λ i. live-warming row.status warm i && f i)) ∙ away))
      over row e true warm false f =
          is_ready_in-agrees s.watches watches s.results row (agrees-other s.watches watches key other (dependencies_of row.content) f)

      by : (o : Option GenRow) → row_in n s.table.rows ≡ o → is_due_found watches s.results o ≡ is_due_found s.watches s.results o
      by None e = refl
      by (Some row) e = over row e (is_warming row.status) refl (is_needed key (dependencies_of row.content)) refl

  -- those that depend on the name are still known
  pub waiting-after : watchers_of (watch_in watches key) ≡ numbers_waiting s.table.rows key
  waiting-after = (λ i. part (λ (w : Watch). w.unlimited) (unlimited-with_arrival made arrival) key i ++ part (λ (w : Watch). w.limited) (limited-with_arrival made arrival) key i) ∙ watchers-index s x key

  pub indexed-arrived : (due : List ℕ)
      → ((n : ℕ) → is_one_of due n ≡ cond (is_one_of (watchers_of (watch_in watches key)) n) (is_due_at watches s.results n s.table.rows) (is_one_of s.due n))
      → IsIndexed (record s { watches = watches; due = due })
  indexed-arrived due looked = record {
    table = x.table;
    active = x.active;
    warming = x.warming;
    unlimited = λ q. part (λ (w : Watch). w.unlimited) (unlimited-with_arrival made arrival) q ∙ x.unlimited q;
    limited = λ q. part (λ (w : Watch). w.limited) (limited-with_arrival made arrival) q ∙ x.limited q;
    holders = x.holders;
    due = λ n. looked n ∙ by n (is_one_of (watchers_of (watch_in watches key)) n) refl;
    drawn = x.drawn;
    unmarked = x.unmarked;
  }
    where
      by : (n : ℕ) (b : Bool) → is_one_of (watchers_of (watch_in watches key)) n ≡ b
          → cond b (is_due_at watches s.results n s.table.rows) (is_one_of s.due n) ≡ is_due_at watches s.results n s.table.rows
      by n true e = refl
      by n false e =
          x.due n
          ∙ sym (elsewhere n ((λ i. is_one_of (sym waiting-after i) n) ∙ e))

pub is_due_at-agrees : (old new : WatchesKept) (results : ResultsKept) → ((q : Key) → Agrees old new q) → (n : ℕ) (rows : List GenRow) → is_due_at new results n rows ≡ is_due_at old results n rows
is_due_at-agrees old new results agrees n rows = by (row_in n rows)
  where
    by : (o : Option GenRow) → is_due_found new results o ≡ is_due_found old results o
    by None = refl
    by (Some row) = ap (λ b. is_warming row.status && b) (is_ready_in-agrees old new results row (agrees-all old new agrees (dependencies_of row.content)))

-- a row of the table gets another status
module _ (s : State) (number : ℕ) (row : GenRow) (status : RowStatus) (x : IsIndexed s) (found : row_in number s.table.rows ≡ Some row)
    (table : GenerationsParts) (rows : table.rows ≡ with_status number status s.table.rows) (made : table.made ≡ s.table.made) where
  table_too : IsTable table
  table_too =
      let same : table ≡ record { rows = with_status number status s.table.rows; made = s.table.made } = λ i. record { rows = rows i; made = made i } in
      subst IsTable (sym same) (table-with_status number status s.table.rows s.table.made x.table)

  -- an index that the number leaves, where it was in it
  leaves : (test : GenRow → Bool) (o p : Option ℕ) → option_to_list o ≡ numbers_where test s.table.rows → ((r : GenRow) → test (row_with status r) ≡ false)
      → (test row ≡ true → p ≡ None) → (test row ≡ false → p ≡ o) → option_to_list p ≡ numbers_where test table.rows
  leaves test o p index fails gone stays = by (test row) refl ∙ sym (ap (numbers_where test) rows ∙ where-left test number status fails s.table.rows)
    where
      by : (b : Bool) → test row ≡ b → option_to_list p ≡ numbers_without number (numbers_where test s.table.rows)
      by true e =
          ap option_to_list (gone e)
          ∙ sym ((λ i. numbers_without number (sym index i))
          ∙ without-one number o ((λ i. is_one_of (index i) number) ∙ among-where test number row s.table.rows found e))
      by false e = ap option_to_list (stays e) ∙ index ∙ sym (where-absent test number row s.table.rows found x.table.apart e)

  -- the one that warmed, or served, is gone
  module _ (live : is_live row.status ≡ true) (ended : is_live status ≡ false) (names : NamesKept) (watches : WatchesKept) (addresses : AddressesKept) (due : List ℕ)
      (stands : Sets nobody s.names names (key_of_row row)
      (cond (is_warming row.status) (record (standing_in s.names (key_of_row row)) { warming = None }) (record (standing_in s.names (key_of_row row)) { active = None })))
      (less : (q : Key) → watch_in watches q ≡ unwatched_for number q (dependencies_of row.content) (watch_in s.watches q))
      (released : ReleasesAddress s.addresses addresses number row.content)
      (dues : (n : ℕ) → is_one_of due n ≡ (not (nat_eq number n) && is_one_of s.due n)) where
    cold : (st : RowStatus) → is_live st ≡ false → (is_warming st ≡ false) × (is_active st ≡ false)
    cold Warming h = absurd (true≢false h)
    cold Active h = absurd (true≢false h)
    cold Draining h = (refl, refl)
    cold Dropped h = (refl, refl)

    active_left : (q : Key) (st : RowStatus) → is_live st ≡ true → (b : Bool) → is_of q row ≡ b
        → (((is_active st && b) ≡ true → (cond b (cond (is_warming st) (record (standing_in s.names (key_of_row row)) { warming = None }) (record (standing_in s.names (key_of_row row)) { active = None })) (standing_in s.names q)).active ≡ None)
        × ((is_active st && b) ≡ false → (cond b (cond (is_warming st) (record (standing_in s.names (key_of_row row)) { warming = None }) (record (standing_in s.names (key_of_row row)) { active = None })) (standing_in s.names q)).active ≡ (standing_in s.names q).active))
    active_left q Warming l true e = (λ h. absurd (true≢false (sym h)), λ h i. (standing_in s.names ((key_decides (key_of_row row) q).0 e i)).active)
    active_left q Warming l false e = (λ h. absurd (true≢false (sym h)), λ h. refl)
    active_left q Active l true e = (λ h. refl, λ h. absurd (true≢false h))
    active_left q Active l false e = (λ h. absurd (true≢false (sym h)), λ h. refl)
    active_left q Draining l b e = absurd (true≢false (sym l))
    active_left q Dropped l b e = absurd (true≢false (sym l))

    warming_left : (q : Key) (st : RowStatus) → is_live st ≡ true → (b : Bool) → is_of q row ≡ b
        → (((is_warming st && b) ≡ true → (cond b (cond (is_warming st) (record (standing_in s.names (key_of_row row)) { warming = None }) (record (standing_in s.names (key_of_row row)) { active = None })) (standing_in s.names q)).warming ≡ None)
        × ((is_warming st && b) ≡ false → (cond b (cond (is_warming st) (record (standing_in s.names (key_of_row row)) { warming = None }) (record (standing_in s.names (key_of_row row)) { active = None })) (standing_in s.names q)).warming ≡ (standing_in s.names q).warming))
    warming_left q Active l true e = (λ h. absurd (true≢false (sym h)), λ h i. (standing_in s.names ((key_decides (key_of_row row) q).0 e i)).warming)
    warming_left q Active l false e = (λ h. absurd (true≢false (sym h)), λ h. refl)
    warming_left q Warming l true e = (λ h. refl, λ h. absurd (true≢false h))
    warming_left q Warming l false e = (λ h. absurd (true≢false (sym h)), λ h. refl)
    warming_left q Draining l b e = absurd (true≢false (sym l))
    warming_left q Dropped l b e = absurd (true≢false (sym l))

    -- a list of those that wait for a name
    fewer : (f : Watch → List ℕ) → ((w : Watch) → f (watched_less number w) ≡ numbers_without number (f w)) → (test : Key → GenRow → Bool)
        → ((q : Key) (r : GenRow) → test q (row_with status r) ≡ false) → ((q : Key) → is_needed q (dependencies_of row.content) ≡ false → test q row ≡ false)
        → ((q : Key) → f (watch_in s.watches q) ≡ numbers_where (test q) s.table.rows) → (q : Key) → f (watch_in watches q) ≡ numbers_where (test q) table.rows
    fewer f out test fails apart index q =
        ap f (less q) ∙ by (is_needed q (dependencies_of row.content)) refl ∙ sym (ap (numbers_where (test q)) rows ∙ where-left (test q) number status (fails q) s.table.rows)
      where
        by : (b : Bool) → is_needed q (dependencies_of row.content) ≡ b → f (cond b (watched_less number (watch_in s.watches q)) (watch_in s.watches q)) ≡ numbers_without number (numbers_where (test q) s.table.rows)
        by true e = out (watch_in s.watches q) ∙ ap (numbers_without number) (index q)
        by false e = index q ∙ sym (where-absent (test q) number row s.table.rows found x.table.apart (apart q e))

    agrees : (q : Key) → Agrees s.watches watches q
    agrees q = record {
      told = ap (λ (w : Watch). w.told) (less q) ∙ by (λ (w : Watch). w.told) (λ w. refl) (is_needed q (dependencies_of row.content));
      timed = ap (λ (w : Watch). w.timed) (less q) ∙ by (λ (w : Watch). w.timed) (λ w. refl) (is_needed q (dependencies_of row.content));
      value = ap (λ (w : Watch). w.value) (less q) ∙ by (λ (w : Watch). w.value) (λ w. refl) (is_needed q (dependencies_of row.content));
    }
      where
        by : {A : Type 0} (f : Watch → A) → ((w : Watch) → f (watched_less number w) ≡ f w) → (b : Bool)
            → f (cond b (watched_less number (watch_in s.watches q)) (watch_in s.watches q)) ≡ f (watch_in s.watches q)
        by f stays true = stays (watch_in s.watches q)
        by f stays false = refl

    -- the list of those that hold an address
    holders_less : (a : SocketAddress) → numbers_at addresses a ≡ numbers_where (holds a) table.rows
    holders_less a =
        released a ∙ by (listens_at a row.content) refl
        ∙ sym (ap (numbers_where (holds a)) rows ∙ where-left (holds a) number status (λ r. ap (λ b. b && listens_at a r.content) ended) s.table.rows)
      where
        by : (b : Bool) → listens_at a row.content ≡ b → cond b (numbers_without number (numbers_at s.addresses a)) (numbers_at s.addresses a) ≡ numbers_without number (numbers_where (holds a) s.table.rows)
        by true e = ap (numbers_without number) (x.holders a)
        by false e = x.holders a ∙ sym (where-absent (holds a) number row s.table.rows found x.table.apart (λ i. live i && e i))

    pub indexed-retired : IsIndexed (record s { table = table; names = names; watches = watches; addresses = addresses; due = due })
    indexed-retired = record {
      table = table_too;
      active = λ q.
          let a = active_left q row.status live (is_of q row) refl in
          leaves (serves q) (standing_in s.names q).active (standing_in names q).active (x.active q) (λ r. ap (λ b. b && is_of q r) (cold status ended).1)
          (λ h. (λ i. (stands q i).active) ∙ a.0 h) (λ h. (λ i. (stands q i).active) ∙ a.1 h);
      warming = λ q.
          let a = warming_left q row.status live (is_of q row) refl in
          leaves (warms q) (standing_in s.names q).warming (standing_in names q).warming (x.warming q) (λ r. ap (λ b. b && is_of q r) (cold status ended).0)
          (λ h. (λ i. (stands q i).warming) ∙ a.0 h) (λ h. (λ i. (stands q i).warming) ∙ a.1 h);
      unlimited = fewer (λ (w : Watch). w.unlimited) (λ w. refl) (λ q. waits q false) (λ q r. ap (λ b. b && is_needed_so q false (dependencies_of r.content)) ended)
          (λ q e. depends-waits q false row (λ i. live i && e i)) x.unlimited;
      limited = fewer (λ (w : Watch). w.limited) (λ w. refl) (λ q. waits q true) (λ q r. ap (λ b. b && is_needed_so q true (dependencies_of r.content)) ended)
          (λ q e. depends-waits q true row (λ i. live i && e i)) x.limited;
      holders = holders_less;
      due = λ n.
          dues n ∙ ap (λ b. not (nat_eq number n) && b) (x.due n)
          ∙ sym (is_due_at-with_status s.watches s.results number status (cold status ended).0 n s.table.rows)
          ∙ sym (is_due_at-agrees s.watches watches s.results agrees n (with_status number status s.table.rows))
          ∙ (λ i. is_due_at watches s.results n (sym rows i));
      drawn = λ n h above. x.drawn n h (subst (λ m. m < n) made above);
      unmarked = λ n above. x.unmarked n (subst (λ m. m < n) made above);
    }

-- a row that warms serves
module _ (s : State) (number : ℕ) (row : GenRow) (x : IsIndexed s) (found : row_in number s.table.rows ≡ Some row)
    (table : GenerationsParts) (rows : table.rows ≡ with_status number Active s.table.rows) (made : table.made ≡ s.table.made)
    (warm : is_warming row.status ≡ true) (alone : (standing_in s.names (key_of_row row)).active ≡ None) (names : NamesKept) (due : List ℕ)
    (stands : Sets nobody s.names names (key_of_row row) (record { active = Some number; warming = None }))
    (dues : (n : ℕ) → is_one_of due n ≡ (not (nat_eq number n) && is_one_of s.due n)) where
  active_at : (q : Key) (b : Bool) → is_of q row ≡ b
      → option_to_list (cond b (record { active = Some number; warming = None }) (standing_in s.names q)).active ≡ numbers_where (serves q) (with_status number Active s.table.rows)
  active_at q true e =
      sym (where-one (serves q) number Active row s.table.rows found x.table.apart
      (sym (x.active q) ∙ (λ i. option_to_list (((λ j. (standing_in s.names (sym ((key_decides (key_of_row row) q).0 e) j)).active) ∙ alone) i))) e)
  active_at q false e =
      x.active q ∙ sym (where-kept (serves q) number Active row s.table.rows found x.table.apart (e ∙ sym (and_right (is_active row.status) (is_of q row) e)))

  -- those that wait for a name, or hold an address, stay
  stays : (test : GenRow → Bool) (ns : List ℕ) → ns ≡ numbers_where test s.table.rows → test (row_with Active row) ≡ test row → ns ≡ numbers_where test table.rows
  stays test ns index same = index ∙ sym (ap (numbers_where test) rows ∙ where-kept test number Active row s.table.rows found x.table.apart same)

  pub indexed-served : IsIndexed (record s { table = table; names = names; due = due })
  indexed-served = record {
    table = table_too s number row Active x found table rows made;
    active = λ q. (λ i. option_to_list (stands q i).active) ∙ active_at q (is_of q row) refl ∙ sym (ap (numbers_where (serves q)) rows);
    warming = λ q.
        leaves s number row Active x found table rows made (warms q) (standing_in s.names q).warming (standing_in names q).warming (x.warming q) (λ r. refl)
        (λ h. (λ i. (stands q i).warming) ∙ (λ i. (cond ((and_parts (is_warming row.status) (is_of q row) h).1 i) (record { active = Some number; warming = None }) (standing_in s.names q)).warming))
        (λ h. (λ i. (stands q i).warming) ∙ (λ i. (cond (((λ j. sym warm j && is_of q row) ∙ h) i) (record { active = Some number; warming = None }) (standing_in s.names q)).warming));
    unlimited = λ q. stays (waits q false) (watch_in s.watches q).unlimited (x.unlimited q) (λ i. sym (live-warming row.status warm) i && is_needed_so q false (dependencies_of row.content));
    limited = λ q. stays (waits q true) (watch_in s.watches q).limited (x.limited q) (λ i. sym (live-warming row.status warm) i && is_needed_so q true (dependencies_of row.content));
    holders = λ a. stays (holds a) (numbers_at s.addresses a) (x.holders a) (λ i. sym (live-warming row.status warm) i && listens_at a row.content);
    due = λ n.
        dues n ∙ ap (λ b. not (nat_eq number n) && b) (x.due n)
        ∙ sym (is_due_at-with_status s.watches s.results number Active refl n s.table.rows)
        ∙ (λ i. is_due_at s.watches s.results n (sym rows i));
    drawn = λ n h above. x.drawn n h (subst (λ m. m < n) made above);
    unmarked = λ n above. x.unmarked n (subst (λ m. m < n) made above);
  }

-- the status of a live row that is removed
pub removed_status-live : (status : RowStatus) → is_live status ≡ true → cond (is_warming status) Dropped Draining ≡ removed_status status
removed_status-live Warming h = refl
removed_status-live Active h = refl
removed_status-live Draining h = absurd (true≢false (sym h))
removed_status-live Dropped h = absurd (true≢false (sym h))

-- what follows from what a call ensures on success
pub on_ok : {A E P Q : Type 0} (r : Result A E) → OnOk r P → (P → Q) → OnOk r Q
on_ok (Ok v) h f = f h
on_ok (Err e) h f = h
