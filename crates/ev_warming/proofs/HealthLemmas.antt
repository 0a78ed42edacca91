-- What a health result does: the indexes stay searches of the rows, and a state that represents a world represents it
-- with the result.
use Rattle.std.proofs.Common.{◌≡◌, ◌∙◌, ◌<◌, ℕ, Bool, true, false, cond, not, ◌&&◌, ◌||◌, nat_eq, List, [], ◌∷◌, ◌++◌, inl, inr, Option, None, Some, IfSome, IsSome, is_some, option_to_list, unwrap_or, map, filter, refl, sym, ap, subst, true≢false}
use Rattle.std.specs.Option.{option_and_then}
use Rattle.std.specs.List.{list_any, last_or}
use Rattle.std.proofs.Math.Bool.{or-true}
use Rattle.std.proofs.lemmas.Bool.{eqb-true, eq-eqb, and_parts}
use Rattle.std.proofs.lemmas.Option.{none-some as not_some}
use Rattle.std.proofs.lemmas.List.{map-append}
use Rattle.std.proofs.lemmas.List.Elements.{filter-append}
use Rattle.std.proofs.lemmas.List.Folds.{list_any-append}
use Rattle.ev_types.specs.Hosts.{HostRowParts}
use Rattle.ev_types.specs.SameHosts.{host_same, host_decides, has_host}
use Rattle.ev_types.specs.Statuses.{is_warming, is_active, is_live}
use Rattle.ev_types.specs.declared.hosts.Host.{Host}
use Rattle.ev_types.specs.declared.contents.Kind.TheVariants.{Cds}
use Rattle.ev_types.specs.declared.rows.RowStatus.{RowStatus}
use Rattle.ev_types.specs.declared.rows.RowStatus.TheVariants.{Warming, Active, Draining, Dropped}
use Rattle.ev_types.specs.declared.rows.GenRow.{GenRow}
use Rattle.ev_model.specs.World.{World, HealthResult}
use Rattle.ev_model.specs.Warming.{is_checked, assignment_by, is_result_of, has_result}
use Rattle.ev_model.specs.Signals.{is_meant, rows_meant, result_for, with_results}
use Rattle.ev_model.specs.Rows.{is_row_of}
use Rattle.ev_indexes.specs.KeptEndpoints.{ResultsKept, marked_in, result_in, Notes}
use Rattle.ev_indexes.specs.Tables.{row_in, numbers_of}
use Rattle.ev_indexes.proofs.TableLemmas.{number-row_in}
use Rattle.ev_lookups.specs.Keys.{named}
use Rattle.ev_indexes.specs.declared.state.State.{State}
use Rattle.ev_indexes.specs.Due.{is_one_of, has_number}
use Rattle.ev_indexes.specs.Standings.{standing_in}
use Rattle.ev_indexes.specs.Watched.{WatchesKept}
use Rattle.ev_indexes.specs.Ready.{are_results_in, assignment_in, is_answered_in, is_due_at, is_due_found, takes_result}
use Rattle.ev_indexes.specs.Indexes.{IsAssignmentOf, IsIndexed, serves, warms, passes}
use Rattle.ev_warming.specs.Forgetting.{IsTidyBut, keeps_result}
use Rattle.ev_warming.specs.Health.{takes_at, is_meant_in, numbers_meant, MarksAssignments, MayMarkOwn, NotesEach}
use Rattle.ev_indexes.specs.Worlds.{HasRows}
use Rattle.ev_indexes.proofs.WhereLemmas.{flipped, among-row}
use Rattle.ev_indexes.proofs.RowLemmas.{any-some}
use Rattle.ev_indexes.proofs.WorldLemmas.{hosts}
use Rattle.ev_warming.proofs.ArrivalLemmas.{last_or-append}

-- whether rows of this number are due looks at the results of the number alone
are_results_in-agrees : (old new : ResultsKept) (number : ℕ) → ((h : Host) → is_some (result_in new number h) ≡ is_some (result_in old number h))
    → (hosts : List HostRowParts) → are_results_in new number hosts ≡ are_results_in old number hosts
are_results_in-agrees old new number same [] = refl
are_results_in-agrees old new number same (h ∷ hosts) = λ i. same h.host i && are_results_in-agrees old new number same hosts i

pub is_due_at-results : (watches : WatchesKept) (old new : ResultsKept) (n : ℕ) (rows : List GenRow) → ((h : Host) → is_some (result_in new n h) ≡ is_some (result_in old n h))
    → is_due_at watches new n rows ≡ is_due_at watches old n rows
is_due_at-results watches old new n rows same = by (row_in n rows) refl
  where
    over : (row : GenRow) → row.number ≡ n → (h : Host) → is_some (result_in new row.number h) ≡ is_some (result_in old row.number h)
    over row own h = (λ i. is_some (result_in new (own i) h)) ∙ same h ∙ (λ i. is_some (result_in old (sym own i) h))

    by : (o : Option GenRow) → row_in n rows ≡ o → is_due_found watches new o ≡ is_due_found watches old o
    by None e = refl
    by (Some row) e =
        let own = number-row_in n row rows e in
        λ i. is_warming row.status && (is_answered_in watches row.number row.content
        && (not (is_checked row.content) || are_results_in-agrees old new row.number (over row own) (assignment_in watches row.content) i))

-- a result was noted for one number, and its row was looked at anew
pub indexed-noted : (s : State) (number : ℕ) (row : GenRow) (host : Host) (healthy : Bool) (results : ResultsKept) (due : List ℕ) → IsIndexed s → row_in number s.table.rows ≡ Some row
    → Notes s.results results number host healthy → MayMarkOwn s.watches row.content s.results results number
    → ((n : ℕ) → is_one_of due n ≡ cond (is_one_of (number ∷ []) n) (is_due_at s.watches results n s.table.rows) (is_one_of s.due n))
    → IsIndexed (record s { results = results; due = due })
indexed-noted s number row host healthy results due x found notes marks looked = record {
  table = x.table;
  active = x.active;
  warming = x.warming;
  unlimited = x.unlimited;
  limited = x.limited;
  holders = x.holders;
  due = λ n. looked n ∙ by n (is_one_of (number ∷ []) n) refl;
  drawn = λ n h above. notes n h ∙ far n h above (nat_eq number n) refl;
  unmarked = λ n above. elim (marks n) [ inl same ↦ same ∙ x.unmarked n above | inr own ↦ other n above own.0 ];
}
  where
    other : {A : Type 0} (n : ℕ) → s.table.made < n → nat_eq number n ≡ true → A
    other n above e =
        let clash : Some row ≡ None = sym found ∙ (λ i. row_in (eqb-true number n e i) s.table.rows) ∙ x.table.drawn n above in
        absurd (not_some row (sym clash))

    far : (n : ℕ) (h : Host) → s.table.made < n → (b : Bool) → nat_eq number n ≡ b → cond (b && host_same host h) (Some healthy) (result_in s.results n h) ≡ None
    far n h above true e =
        let clash : Some row ≡ None = sym found ∙ (λ i. row_in (eqb-true number n e i) s.table.rows) ∙ x.table.drawn n above in
        cc
    far n h above false e = x.drawn n h above

    apart : (n : ℕ) → is_one_of (number ∷ []) n ≡ false → nat_eq number n ≡ false
    apart n e = flipped number n ∙ first (nat_eq n number) e
      where
        first : (b : Bool) → (b || false) ≡ false → b ≡ false
        first true h = h
        first false h = refl

    by : (n : ℕ) (b : Bool) → is_one_of (number ∷ []) n ≡ b → cond b (is_due_at s.watches results n s.table.rows) (is_one_of s.due n) ≡ is_due_at s.watches results n s.table.rows
    by n true e = refl
    by n false e =
        x.due n
        ∙ sym (is_due_at-results s.watches s.results results n s.table.rows (λ h. (λ i. is_some (notes n h i))
        ∙ (λ i. is_some (cond (apart n e i && host_same host h) (Some healthy) (result_in s.results n h)))))

-- rows that are marked for the generation of a row are its assignment
pub marks-own : (s : State) (number : ℕ) (row : GenRow) (results : ResultsKept) (due : List ℕ) → row_in number s.table.rows ≡ Some row
    → MayMarkOwn s.watches row.content s.results results number → MarksAssignments s (record s { results = results; due = due })
marks-own s number row results due found marks n was r at live = elim (marks n) [
  | inl same ↦ subst (λ (o : Option (List HostRowParts)). IfSome o (IsAssignmentOf s.watches r.content)) (sym same) (was r at live)
  | inr own ↦
      let one : Some r ≡ Some row = sym at ∙ (λ i. row_in (sym (eqb-true number n own.0) i) s.table.rows) ∙ found in
      let same : r ≡ row = cc in
      subst (λ (g : GenRow). IfSome (marked_in results n) (IsAssignmentOf s.watches g.content)) (sym same) own.1
]

-- a result was noted for one number
pub notes-one : (old new : ResultsKept) (number : ℕ) (host : Host) (healthy : Bool) → Notes old new number host healthy → NotesEach old new (number ∷ []) host healthy
notes-one old new number host healthy notes n h = notes n h ∙ (λ i. cond (same i && host_same host h) (Some healthy) (result_in old n h))
  where
    alone : (b : Bool) → b ≡ (b || false)
    alone true = refl
    alone false = refl

    same : nat_eq number n ≡ is_one_of (number ∷ []) n
    same = flipped number n ∙ alone (nat_eq n number)

-- a number that takes the result or none of both
among-taken : (q : GenRow → Bool) (rows : List GenRow) (o : Option ℕ) (m : Bool) → m ≡ passes q (option_and_then (λ n. row_in n rows) o) → (n : ℕ)
    → is_one_of (cond m (option_to_list o) []) n ≡ (is_one_of (option_to_list o) n && passes q (row_in n rows))
among-taken q rows None true e n = refl
among-taken q rows None false e n = refl
among-taken q rows (Some k) m e n = by (nat_eq n k) refl m e
  where
    by : (b : Bool) → nat_eq n k ≡ b → (m : Bool) → m ≡ passes q (row_in k rows) → is_one_of (cond m (k ∷ []) []) n ≡ ((b || false) && passes q (row_in n rows))
    by true f true e = (λ i. f i || false) ∙ e ∙ (λ i. passes q (row_in (sym (eqb-true n k f) i) rows))
    by true f false e = e ∙ (λ i. passes q (row_in (sym (eqb-true n k f) i) rows))
    by false f true e = λ i. f i || false
    by false f false e = refl

either_way : (st : RowStatus) (b t : Bool) → ((is_live st && b) && t) ≡ (((is_active st && b) && t) || ((is_warming st && b) && t))
either_way Warming b t = refl
either_way Active true true = refl
either_way Active true false = refl
either_way Active false t = refl
either_way Draining b t = refl
either_way Dropped b t = refl

among-some : (ns : List ℕ) (n : ℕ) → is_one_of ns n ≡ true → has_number ns ≡ true
among-some [] n h = h
among-some (k ∷ ns) n h = refl

none-some : (ns : List ℕ) → ((n : ℕ) → is_one_of ns n ≡ false) → has_number ns ≡ false
none-some [] none = refl
none-some (k ∷ ns) none = absurd (true≢false ((λ i. sym (eq-eqb k k refl) i || is_one_of ns k) ∙ none k))

holder : (watches : WatchesKept) (host : Host) (rows : List GenRow) (o : Option ℕ) (m : Bool) → m ≡ takes_at watches host o rows → m ≡ true
    → (n : ℕ) × (is_one_of (cond m (option_to_list o) []) n ≡ true)
holder watches host rows None m e h = absurd (true≢false (sym h ∙ e))
holder watches host rows (Some k) m e h =
    (k, (λ i. is_one_of (cond (h i) (k ∷ []) []) k) ∙ (λ i. eq-eqb k k refl i || false))

module _ (s : State) (x : IsIndexed s) (name : List ℕ) (host : Host) (served warmed : Bool)
    (takes_served : served ≡ takes_at s.watches host (standing_in s.names (named Cds name)).active s.table.rows)
    (takes_warmed : warmed ≡ takes_at s.watches host (standing_in s.names (named Cds name)).warming s.table.rows) where
  abbrev takes : GenRow → Bool
  takes row = takes_result s.watches host row.content

  -- the numbers that the result is for are those of the one that serves and of the one that warms, where they take it
  pub among-meant : (n : ℕ) → is_one_of (numbers_meant s.watches name host s.table.rows) n
      ≡ (is_one_of (cond served (option_to_list (standing_in s.names (named Cds name)).active) []) n || is_one_of (cond warmed (option_to_list (standing_in s.names (named Cds name)).warming) []) n)
  among-meant n =
      among-row (is_meant_in s.watches name host) n s.table.rows x.table.apart ∙ by (row_in n s.table.rows)
      ∙ (λ i. (sym (among-row (serves (named Cds name)) n s.table.rows x.table.apart) i && passes takes (row_in n s.table.rows))
      || (sym (among-row (warms (named Cds name)) n s.table.rows x.table.apart) i && passes takes (row_in n s.table.rows)))
      ∙ (λ i. (is_one_of (sym (x.active (named Cds name)) i) n && passes takes (row_in n s.table.rows)) || (is_one_of (sym (x.warming (named Cds name)) i) n && passes takes (row_in n s.table.rows)))
      ∙ (λ i. sym (among-taken takes s.table.rows (standing_in s.names (named Cds name)).active served takes_served n) i
      || sym (among-taken takes s.table.rows (standing_in s.names (named Cds name)).warming warmed takes_warmed n) i)
    where
      by : (o : Option GenRow) → passes (is_meant_in s.watches name host) o ≡ ((passes (serves (named Cds name)) o && passes takes o) || (passes (warms (named Cds name)) o && passes takes o))
      by None = refl
      by (Some row) = either_way row.status (is_row_of Cds name row) (takes_result s.watches host row.content)

  -- what both notes do together
  pub notes-both : (healthy : Bool) (middle new : ResultsKept) → NotesEach s.results middle (cond served (option_to_list (standing_in s.names (named Cds name)).active) []) host healthy
      → NotesEach middle new (cond warmed (option_to_list (standing_in s.names (named Cds name)).warming) []) host healthy
      → NotesEach s.results new (numbers_meant s.watches name host s.table.rows) host healthy
  notes-both healthy middle new first second n h =
      second n h
      ∙ (λ i. cond (is_one_of (cond warmed (option_to_list (standing_in s.names (named Cds name)).warming) []) n && host_same host h) (Some healthy) (first n h i))
      ∙ by (is_one_of (cond served (option_to_list (standing_in s.names (named Cds name)).active) []) n) (is_one_of (cond warmed (option_to_list (standing_in s.names (named Cds name)).warming) []) n) (host_same host h)
      ∙ (λ i. cond (sym (among-meant n) i && host_same host h) (Some healthy) (result_in s.results n h))
    where
      by : (a b c : Bool) → cond (b && c) (Some healthy) (cond (a && c) (Some healthy) (result_in s.results n h)) ≡ cond ((a || b) && c) (Some healthy) (result_in s.results n h)
      by true true true = refl
      by true true false = refl
      by true false true = refl
      by true false false = refl
      by false true true = refl
      by false true false = refl
      by false false c = refl

  -- some row is meant where the one that serves takes the result, or the one that warms
  pub any-meant : list_any (is_meant_in s.watches name host) s.table.rows ≡ (served || warmed)
  any-meant =
      any-some (is_meant_in s.watches name host) s.table.rows
      ∙ by served warmed
      (λ h. let there = holder s.watches host s.table.rows (standing_in s.names (named Cds name)).active served takes_served h in
      among-some (numbers_meant s.watches name host s.table.rows) there.0
      (among-meant there.0 ∙ (λ i. there.1 i || is_one_of (cond warmed (option_to_list (standing_in s.names (named Cds name)).warming) []) there.0)))
      (λ h. let there = holder s.watches host s.table.rows (standing_in s.names (named Cds name)).warming warmed takes_warmed h in
      among-some (numbers_meant s.watches name host s.table.rows) there.0
      (among-meant there.0 ∙ (λ i. is_one_of (cond served (option_to_list (standing_in s.names (named Cds name)).active) []) there.0 || there.1 i) ∙ or-true (is_one_of (cond served (option_to_list (standing_in s.names (named Cds name)).active) []) there.0)))
      (λ h k. none-some (numbers_meant s.watches name host s.table.rows) (λ n. among-meant n
      ∙ (λ i. is_one_of (cond (h i) (option_to_list (standing_in s.names (named Cds name)).active) []) n || is_one_of (cond (k i) (option_to_list (standing_in s.names (named Cds name)).warming) []) n)))
    where
      by : (a b : Bool) → (a ≡ true → has_number (numbers_meant s.watches name host s.table.rows) ≡ true) → (b ≡ true → has_number (numbers_meant s.watches name host s.table.rows) ≡ true)
          → (a ≡ false → b ≡ false → has_number (numbers_meant s.watches name host s.table.rows) ≡ false) → has_number (numbers_meant s.watches name host s.table.rows) ≡ (a || b)
      by true b f g h = f refl
      by false true f g h = g refl
      by false false f g h = h refl refl

-- what a result of a host adds for each of these rows
has_result-more : (rows : List GenRow) (host : Host) (healthy : Bool) (n : ℕ) (h : Host)
    → has_result (map (result_for host healthy) rows) n h ≡ (is_one_of (numbers_of rows) n && host_same host h)
has_result-more [] host healthy n h = refl
has_result-more (row ∷ rows) host healthy n h =
    (λ i. (flipped row.number n i && host_same host h) || has_result-more rows host healthy n h i) ∙ by (nat_eq n row.number) (is_one_of (numbers_of rows) n) (host_same host h)
  where
    by : (a b c : Bool) → ((a && c) || (b && c)) ≡ ((a || b) && c)
    by true true true = refl
    by true true false = refl
    by true false true = refl
    by true false false = refl
    by false b c = refl

-- the last result of a host once these rows have one more
last-more : (rows : List GenRow) (host : Host) (healthy : Bool) (n : ℕ) (h : Host) (o : Option Bool)
    → last_or o (map (λ (r : HealthResult). r.healthy) (filter (is_result_of n h) (map (result_for host healthy) rows))) ≡ cond (is_one_of (numbers_of rows) n && host_same host h) (Some healthy) o
last-more [] host healthy n h o = refl
last-more (row ∷ rows) host healthy n h o =
    (λ i. last_or o (map (λ (r : HealthResult). r.healthy) (cond (flipped row.number n i && host_same host h) (result_for host healthy row ∷ filter (is_result_of n h) (map (result_for host healthy) rows))
    (filter (is_result_of n h) (map (result_for host healthy) rows)))))
    ∙ by (nat_eq n row.number) (is_one_of (numbers_of rows) n) (host_same host h) (last-more rows host healthy n h)
  where
    by : (a b c : Bool) → ((o : Option Bool) → last_or o (map (λ (r : HealthResult). r.healthy) (filter (is_result_of n h) (map (result_for host healthy) rows))) ≡ cond (b && c) (Some healthy) o)
        → last_or o (map (λ (r : HealthResult). r.healthy) (cond (a && c) (result_for host healthy row ∷ filter (is_result_of n h) (map (result_for host healthy) rows)) (filter (is_result_of n h) (map (result_for host healthy) rows))))
        ≡ cond ((a || b) && c) (Some healthy) o
    by true true true more = more (Some healthy)
    by true false true more = more (Some healthy)
    by true b false more = more o ∙ (λ i. cond (none b i) (Some healthy) o)
      where
        none : (b : Bool) → (b && false) ≡ false
        none true = refl
        none false = refl
    by false b c more = more o

-- a state that represents a world
module _ (s : State) (world : World) (stands : HasRows s world) (x : IsIndexed s) (name : List ℕ) (host : Host) where
  -- the result is for the same rows
  pub rows_meant-same : rows_meant world.arrivals name host world.rows ≡ filter (is_meant_in s.watches name host) s.table.rows
  rows_meant-same = ap (filter (is_meant world.arrivals name host)) (sym stands.rows) ∙ each s.table.rows
    where
      by : (n l c a : Bool) → (((n && l) && c) && a) ≡ ((l && n) && (c && a))
      by true true true a = refl
      by true true false a = refl
      by true false c a = refl
      by false true c a = refl
      by false false c a = refl

      over : (r : GenRow) → is_meant world.arrivals name host r ≡ is_meant_in s.watches name host r
      over r =
          by (is_row_of Cds name r) (is_live r.status) (is_checked r.content) (has_host host (assignment_by world.arrivals r.content))
          ∙ (λ i. (is_live r.status && is_row_of Cds name r) && (is_checked r.content && has_host host (sym (hosts s world stands r.content) i)))

      each : (rs : List GenRow) → filter (is_meant world.arrivals name host) rs ≡ filter (is_meant_in s.watches name host) rs
      each [] = refl
      each (r ∷ rs) = λ i. cond (over r i) (r ∷ each rs i) (each rs i)

  pub any_meant-same : list_any (is_meant_in s.watches name host) s.table.rows ≡ list_any (is_meant world.arrivals name host) world.rows
  any_meant-same =
      any-some (is_meant_in s.watches name host) s.table.rows ∙ ap (λ (rs : List GenRow). has_number (numbers_of rs)) (sym rows_meant-same)
      ∙ sym (any-some (is_meant world.arrivals name host) world.rows)

  pub noted-stands : (healthy : Bool) (results : ResultsKept) (due : List ℕ) → NotesEach s.results results (numbers_meant s.watches name host s.table.rows) host healthy
      → HasRows (record s { results = results; due = due }) (with_results host healthy (rows_meant world.arrivals name host world.rows) world)
  noted-stands healthy results due notes = record {
    sound = record { table = stands.sound.table; typed = stands.sound.typed; named = stands.sound.named; heard = heard_too };
    rows = stands.rows;
    made = stands.made;
    told = stands.told;
    timed = stands.timed;
    value = stands.value;
    resulted = λ n h there. (λ i. is_some (notes n h i)) ∙ some_by n h (is_one_of (numbers_meant s.watches name host s.table.rows) n && host_same host h) ∙ (λ i. stands.resulted n h there i || (is_one_of (numbers_of (sym rows_meant-same i)) n && host_same host h))
        ∙ (λ i. has_result world.results n h || sym (has_result-more (rows_meant world.arrivals name host world.rows) host healthy n h) i)
        ∙ sym (list_any-append (is_result_of n h) world.results (map (result_for host healthy) (rows_meant world.arrivals name host world.rows)));
    healthy = λ n h there. (λ i. unwrap_or (notes n h i) false) ∙ or_by n h there (is_one_of (numbers_meant s.watches name host s.table.rows) n && host_same host h)
        ∙ (λ i. unwrap_or (cond (is_one_of (numbers_of (sym rows_meant-same i)) n && host_same host h) (Some healthy)
        (last_or None (map (λ (r : HealthResult). r.healthy) (filter (is_result_of n h) world.results)))) false)
        ∙ ap (λ o. unwrap_or o false) (sym (last-more (rows_meant world.arrivals name host world.rows) host healthy n h (last_or None (map (λ (r : HealthResult). r.healthy) (filter (is_result_of n h) world.results)))))
        ∙ ap (λ o. unwrap_or o false) (sym (last-both n h));
  }
    where
      heard_too : (n : ℕ) (h : Host) → world.made < n → has_result (world.results ++ map (result_for host healthy) (rows_meant world.arrivals name host world.rows)) n h ≡ false
      heard_too n h above =
          list_any-append (is_result_of n h) world.results (map (result_for host healthy) (rows_meant world.arrivals name host world.rows))
          ∙ (λ i. stands.sound.heard n h above i || has_result-more (rows_meant world.arrivals name host world.rows) host healthy n h i)
          ∙ (λ i. (among-row (is_meant world.arrivals name host) n world.rows stands.sound.table.apart ∙ ap (passes (is_meant world.arrivals name host)) (stands.sound.table.drawn n above)) i && host_same host h)

      some_by : (n : ℕ) (h : Host) (b : Bool) → is_some (cond b (Some healthy) (result_in s.results n h)) ≡ (is_some (result_in s.results n h) || b)
      some_by n h true = sym (or-true (is_some (result_in s.results n h)))
      some_by n h false = or_none (is_some (result_in s.results n h))
        where
          or_none : (b : Bool) → b ≡ (b || false)
          or_none true = refl
          or_none false = refl

      or_by : (n : ℕ) (h : Host) → IsSome (row_in n s.table.rows) → (b : Bool) → unwrap_or (cond b (Some healthy) (result_in s.results n h)) false
          ≡ unwrap_or (cond b (Some healthy) (last_or None (map (λ (r : HealthResult). r.healthy) (filter (is_result_of n h) world.results)))) false
      or_by n h there true = refl
      or_by n h there false = stands.healthy n h there

      last-both : (n : ℕ) (h : Host) → last_or None (map (λ (r : HealthResult). r.healthy) (filter (is_result_of n h) (world.results ++ map (result_for host healthy) (rows_meant world.arrivals name host world.rows))))
          ≡ last_or (last_or None (map (λ (r : HealthResult). r.healthy) (filter (is_result_of n h) world.results)))
          (map (λ (r : HealthResult). r.healthy) (filter (is_result_of n h) (map (result_for host healthy) (rows_meant world.arrivals name host world.rows))))
      last-both n h =
          (λ i. last_or None (map (λ (r : HealthResult). r.healthy) (filter-append (is_result_of n h) world.results (map (result_for host healthy) (rows_meant world.arrivals name host world.rows)) i)))
          ∙ ap (last_or None) (map-append (λ (r : HealthResult). r.healthy) (filter (is_result_of n h) world.results) (filter (is_result_of n h) (map (result_for host healthy) (rows_meant world.arrivals name host world.rows))))
          ∙ last_or-append None (map (λ (r : HealthResult). r.healthy) (filter (is_result_of n h) world.results))
          (map (λ (r : HealthResult). r.healthy) (filter (is_result_of n h) (map (result_for host healthy) (rows_meant world.arrivals name host world.rows))))

-- no result of a host that its row doesn't have is kept: what nobody needs is known of the same rows as before
pub noted-tidy : (s : State) → IsIndexed s → (name : List ℕ) (host : Host) (healthy : Bool) (results : ResultsKept) (due : List ℕ) → NotesEach s.results results (numbers_meant s.watches name host s.table.rows) host healthy
    → MarksAssignments s (record s { results = results; due = due })
    → (stale : List ℕ) → IsTidyBut s stale → IsTidyBut (record s { results = results; due = due }) stale
noted-tidy s x name host healthy results due notes marks stale tidy = record {
  marks = tidy.marks;
  results = λ n row h found fresh lost. notes n h ∙ by n row h found fresh lost (is_one_of (numbers_meant s.watches name host s.table.rows) n) refl (host_same host h) refl;
  marked = λ n fresh. marks n (tidy.marked n fresh);
}
  where
    by : (n : ℕ) (row : GenRow) (h : Host) → row_in n s.table.rows ≡ Some row → is_one_of stale n ≡ false → keeps_result s.watches h row ≡ false
        → (a : Bool) → is_one_of (numbers_meant s.watches name host s.table.rows) n ≡ a → (b : Bool) → host_same host h ≡ b → cond (a && b) (Some healthy) (result_in s.results n h) ≡ None
    by n row h found fresh lost true e true f =
        let meant : is_meant_in s.watches name host row ≡ true =
        (λ i. passes (is_meant_in s.watches name host) (sym found i)) ∙ sym (among-row (is_meant_in s.watches name host) n s.table.rows x.table.apart) ∙ e in
        let live = and_parts (is_live row.status && is_row_of Cds name row) (takes_result s.watches host row.content) meant in
        let own = and_parts (is_live row.status) (is_row_of Cds name row) live.0 in
        let here = and_parts (is_checked row.content) (has_host host (assignment_in s.watches row.content)) live.1 in
        absurd (true≢false ((λ i. sym own.0 i && sym here.1 i) ∙ (λ i. is_live row.status && has_host ((host_decides host h).0 f i) (assignment_in s.watches row.content)) ∙ lost))
    by n row h found fresh lost true e false f = tidy.results n row h found fresh lost
    by n row h found fresh lost false e b f = tidy.results n row h found fresh lost
