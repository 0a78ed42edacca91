-- A generation that is due makes its predecessor drain and serves: by numbers as the code does it, and by names as
-- promotion says it.
use Rattle.std.proofs.Common.{◌≡◌, ◌∙◌, ℕ, Bool, true, false, cond, not, ◌&&◌, ◌||◌, nat_eq, List, [], ◌∷◌, ◌++◌, Option, None, Some, option_map, option_to_list, refl, sym, ap, true≢false}
use Rattle.std.proofs.Math.Bool.{or-false}
use Rattle.std.proofs.lemmas.Bool.{eqb-true, eq-eqb, false_from_ne_true, and_parts, and_from}
use Rattle.std.proofs.lemmas.List.Folds.{list_any-append}
use Rattle.ev_types.specs.Statuses.{is_warming, is_active, is_live}
use Rattle.ev_types.specs.declared.rows.RowStatus.{RowStatus}
use Rattle.ev_types.specs.declared.rows.RowStatus.TheVariants.{Warming, Active, Draining, Dropped}
use Rattle.ev_types.specs.declared.rows.GenRow.{GenRow}
use Rattle.ev_model.specs.Rows.{removed_status, with_statuses}
use Rattle.ev_indexes.specs.Tables.{row_in, status_with, with_status}
use Rattle.ev_indexes.proofs.TableLemmas.{row_in-with_statuses, number-row_in}
use Rattle.ev_indexes.specs.KeptEndpoints.{ResultsKept}
use Rattle.ev_lookups.specs.Keys.{key_decides}
use Rattle.ev_lookups.specs.declared.kind_keys.Key.{Key}
use Rattle.ev_indexes.specs.declared.state.State.{State}
use Rattle.ev_indexes.specs.Due.{is_one_of}
use Rattle.ev_indexes.specs.Standings.{standing_in}
use Rattle.ev_indexes.specs.Watched.{numbers_without, WatchesKept}
use Rattle.ev_indexes.specs.Ready.{is_ready_in, is_due_in, is_due_found}
use Rattle.ev_indexes.specs.Indexes.{IsIndexed, is_of, key_of_row, serves, warms, SameMarks, numbers_where, status_in}
use Rattle.ev_warming.specs.Promotion.{rows_promoted, status_drained}
use Rattle.ev_model.specs.Watching.{dependencies_of}
use Rattle.ev_warming.proofs.ReadyLemmas.{is_ready_in-agrees, agrees-all}
use Rattle.ev_indexes.proofs.WhereLemmas.{own-rows, row_with, among-where, where-left, where-members, found-where, any-found, all-found, flipped, only, emptied, without-one}
use Rattle.ev_indexes.proofs.RowLemmas.{all_then, both_all, statuses_agree}
use Rattle.ev_warming.proofs.PromotionLemmas.{with_statuses-twice, statuses_same, status_once, rows_once, rows_promoted-once, rows_promoted-none}
use Rattle.ev_warming.proofs.DrainLemmas.{cold-active}

live-active : (status : RowStatus) → is_active status ≡ true → is_live status ≡ true
live-active Active h = refl
live-active Warming h = absurd (true≢false (sym h))
live-active Draining h = absurd (true≢false (sym h))
live-active Dropped h = absurd (true≢false (sym h))

removed-active : (status : RowStatus) → is_active status ≡ true → removed_status status ≡ Draining
removed-active Active h = refl
removed-active Warming h = absurd (true≢false (sym h))
removed-active Draining h = absurd (true≢false (sym h))
removed-active Dropped h = absurd (true≢false (sym h))

-- a row that is found and warms
pub found_warm : (o : Option GenRow) → is_warming (status_in o) ≡ true → (row : GenRow) × (o ≡ Some row)
found_warm None h = absurd (true≢false (sym h))
found_warm (Some row) h = (row, refl)

module _ (s : State) (x : IsIndexed s) (key : Key) where
  -- no generation serves the name
  pub way-none : (standing_in s.names key).active ≡ None → s.table.rows ≡ with_statuses (status_drained key) s.table.rows
  way-none none =
      sym (statuses_same s.table.rows)
      ∙ statuses_agree (λ (r : GenRow). r.status) (status_drained key) s.table.rows
      (all_then (λ (r : GenRow). is_one_of (numbers_where (serves key) s.table.rows) r.number ≡ serves key r) (λ (r : GenRow). r.status ≡ status_drained key r) s.table.rows
      (λ r h. λ i. cond ((sym (λ j. is_one_of ((sym (x.active key) ∙ ap option_to_list none) j) r.number) ∙ h) i) Draining r.status)
      (where-members (serves key) s.table.rows x.table.apart))

  module _ (p : ℕ) (at : (standing_in s.names key).active ≡ Some p) where
    members : numbers_where (serves key) s.table.rows ≡ p ∷ []
    members = sym (x.active key) ∙ ap option_to_list at

    theirs : (row : GenRow) × (row_in p s.table.rows ≡ Some row) × (serves key row ≡ true)
    theirs = found-where (serves key) p s.table.rows x.table.apart ((λ i. is_one_of (members i) p) ∙ or-false (nat_eq p p) ∙ eq-eqb p p refl)

    serving : is_active theirs.0.status ≡ true
    serving = (and_parts (is_active theirs.0.status) (is_of key theirs.0) theirs.2).0

    pub way-live : is_live (status_in (row_in p s.table.rows)) ≡ true
    way-live = (λ i. is_live (status_in (theirs.1 i))) ∙ live-active theirs.0.status serving

    removed : removed_status (status_in (row_in p s.table.rows)) ≡ Draining
    removed = (λ i. removed_status (status_in (theirs.1 i))) ∙ removed-active theirs.0.status serving

    pub way-rows : with_status p (removed_status (status_in (row_in p s.table.rows))) s.table.rows ≡ with_statuses (status_drained key) s.table.rows
    way-rows =
        (λ i. with_status p (removed i) s.table.rows)
        ∙ statuses_agree (status_with p Draining) (status_drained key) s.table.rows
        (all_then (λ (r : GenRow). is_one_of (numbers_where (serves key) s.table.rows) r.number ≡ serves key r) (λ (r : GenRow). status_with p Draining r ≡ status_drained key r) s.table.rows
        (λ r h. λ i. cond ((flipped p r.number ∙ sym (or-false (nat_eq r.number p)) ∙ (λ j. is_one_of (sym members j) r.number) ∙ h) i) Draining r.status)
        (where-members (serves key) s.table.rows x.table.apart))

    pub way-row : (number : ℕ) (row : GenRow) (status : RowStatus) → row_in number s.table.rows ≡ Some row → is_warming row.status ≡ true
        → row_in number (with_status p status s.table.rows) ≡ row_in number s.table.rows
    way-row number row status found warm =
        row_in-with_statuses number (status_with p status) s.table.rows
        ∙ (λ i. option_map (λ (r : GenRow). record r { status = status_with p status r }) (found i))
        ∙ (λ i. Some (record row { status = cond (far i) status row.status }))
        ∙ sym found
      where
        far : nat_eq p row.number ≡ false
        far = false_from_ne_true (nat_eq p row.number) (λ h.
            let same : Some theirs.0 ≡ Some row = sym theirs.1 ∙ (λ i. row_in ((eqb-true p row.number h ∙ number-row_in number row s.table.rows found) i) s.table.rows) ∙ found in
            let own : theirs.0 ≡ row = cc in
            true≢false (sym warm ∙ (λ i. is_warming (sym own i).status) ∙ cold-active theirs.0.status serving))

    pub way-due : (n : ℕ) → (not (nat_eq p n) && is_one_of s.due n) ≡ is_one_of s.due n
    way-due n = by (nat_eq p n) refl
      where
        by : (b : Bool) → nat_eq p n ≡ b → (not b && is_one_of s.due n) ≡ is_one_of s.due n
        by true e =
            sym (x.due n
            ∙ (λ i. is_due_found s.watches s.results (row_in (sym (eqb-true p n e) i) s.table.rows))
            ∙ (λ i. is_due_found s.watches s.results (theirs.1 i))
            ∙ (λ i. cold-active theirs.0.status serving i && is_ready_in s.watches s.results theirs.0))
        by false e = refl

    pub way-alone : (t : State) → IsIndexed t → t.table.rows ≡ with_status p (removed_status (status_in (row_in p s.table.rows))) s.table.rows
        → (standing_in t.names key).active ≡ None
    way-alone t y e =
        emptied (standing_in t.names key).active
        (y.active key ∙ ap (numbers_where (serves key)) (e ∙ (λ i. with_status p (removed i) s.table.rows))
        ∙ where-left (serves key) p Draining (λ r. refl) s.table.rows
        ∙ ap (numbers_without p) members
        ∙ without-one p (Some p) (or-false (nat_eq p p) ∙ eq-eqb p p refl))

-- a generation that is due serves
module _ (s : State) (x : IsIndexed s) (number : ℕ) (row : GenRow) (found : row_in number s.table.rows ≡ Some row) (due : is_one_of s.due number ≡ true) where
  is_due : is_due_in s.watches s.results row ≡ true
  is_due = (λ i. is_due_found s.watches s.results (sym found i)) ∙ sym (x.due number) ∙ due

  warm : is_warming row.status ≡ true
  warm = (and_parts (is_warming row.status) (is_ready_in s.watches s.results row) is_due).0

  ready : is_ready_in s.watches s.results row ≡ true
  ready = (and_parts (is_warming row.status) (is_ready_in s.watches s.results row) is_due).1

  named : warms (key_of_row row) row ≡ true
  named = and_from (is_warming row.status) (is_of (key_of_row row) row) warm ((key_decides (key_of_row row) (key_of_row row)).1 refl)

  lone : numbers_where (warms (key_of_row row)) s.table.rows ≡ number ∷ []
  lone =
      let o = (standing_in s.names (key_of_row row)).warming in
      sym (x.warming (key_of_row row))
      ∙ ap option_to_list (only number o ((λ i. is_one_of (x.warming (key_of_row row) i) number) ∙ among-where (warms (key_of_row row)) number row s.table.rows found named))

  same_row : (r : GenRow) → is_one_of (numbers_where (warms (key_of_row row)) s.table.rows) r.number ≡ warms (key_of_row row) r → nat_eq number r.number ≡ warms (key_of_row row) r
  same_row r h = flipped number r.number ∙ sym (or-false (nat_eq r.number number)) ∙ (λ j. is_one_of (sym lone j) r.number) ∙ h

  once : (rows : List GenRow) → rows ≡ with_statuses (status_drained (key_of_row row)) s.table.rows → with_status number Active rows ≡ rows_once (key_of_row row) s.table.rows
  once rows e =
      ap (with_status number Active) e
      ∙ with_statuses-twice (status_with number Active) (status_drained (key_of_row row)) s.table.rows
      ∙ statuses_agree (λ (r : GenRow). status_with number Active (row_with (status_drained (key_of_row row) r) r)) (status_once (key_of_row row)) s.table.rows
      (all_then (λ (r : GenRow). is_one_of (numbers_where (warms (key_of_row row)) s.table.rows) r.number ≡ warms (key_of_row row) r)
      (λ (r : GenRow). status_with number Active (row_with (status_drained (key_of_row row) r) r) ≡ status_once (key_of_row row) r) s.table.rows
      (λ r h. λ i. cond (same_row r h i) Active (status_drained (key_of_row row) r))
      (where-members (warms (key_of_row row)) s.table.rows x.table.apart))

  pub promoted-one : (rows : List GenRow) → rows ≡ with_statuses (status_drained (key_of_row row)) s.table.rows
      → rows_promoted (is_ready_in s.watches s.results) (with_status number Active rows) ≡ rows_promoted (is_ready_in s.watches s.results) s.table.rows
  promoted-one rows e =
      ap (rows_promoted (is_ready_in s.watches s.results)) (once rows e)
      ∙ rows_promoted-once (is_ready_in s.watches s.results) (λ status r. refl) (key_of_row row) s.table.rows
      (any-found (λ (r : GenRow). warms (key_of_row row) r && is_ready_in s.watches s.results r) number row s.table.rows found
      (and_from (warms (key_of_row row) row) (is_ready_in s.watches s.results row) named ready))
      (all_then (λ (r : GenRow). (is_one_of (numbers_where (warms (key_of_row row)) s.table.rows) r.number ≡ warms (key_of_row row) r) × (nat_eq number r.number ≡ true → r ≡ row))
      (λ (r : GenRow). warms (key_of_row row) r ≡ true → is_ready_in s.watches s.results r ≡ true) s.table.rows
      (λ r (h, q) w. (λ i. is_ready_in s.watches s.results (q (same_row r h ∙ w) i)) ∙ ready)
      (both_all (λ (r : GenRow). is_one_of (numbers_where (warms (key_of_row row)) s.table.rows) r.number ≡ warms (key_of_row row) r) (λ (r : GenRow). nat_eq number r.number ≡ true → r ≡ row)
      s.table.rows (where-members (warms (key_of_row row)) s.table.rows x.table.apart) (all-found number row s.table.rows found x.table.apart)))

-- readiness by the same marks is the same
pub ready-same : (old new : WatchesKept) (results : ResultsKept) → SameMarks old new → is_ready_in new results ≡ is_ready_in old results
ready-same old new results same =
    λ i row. is_ready_in-agrees old new results row (agrees-all old new (λ q. record { told = (same q).0; timed = (same q).1; value = (same q).2 }) (dependencies_of row.content)) i

pub marks-then : (a b c : WatchesKept) → SameMarks a b → SameMarks b c → SameMarks a c
marks-then a b c p q = λ key. ((q key).0 ∙ (p key).0, (q key).1 ∙ (p key).1, (q key).2 ∙ (p key).2)

-- where none is due, promotion does nothing
pub promoted-done : (s : State) → IsIndexed s → s.due ≡ [] → rows_promoted (is_ready_in s.watches s.results) s.table.rows ≡ s.table.rows
promoted-done s x none =
    rows_promoted-none (is_ready_in s.watches s.results) s.table.rows
    (all_then (λ (r : GenRow). row_in r.number s.table.rows ≡ Some r) (λ (r : GenRow). is_due_in s.watches s.results r ≡ false) s.table.rows
    (λ r own. (λ i. is_due_found s.watches s.results (sym own i)) ∙ sym (x.due r.number) ∙ (λ i. is_one_of (none i) r.number))
    (own-rows s.table.rows x.table.apart))

-- one more of those that were due has come to serve
pub served-more : (served due rest : List ℕ) (number n : ℕ) → is_one_of due number ≡ true → is_one_of rest n ≡ (not (nat_eq number n) && is_one_of due n)
    → (is_one_of (served ++ number ∷ []) n || is_one_of rest n) ≡ (is_one_of served n || is_one_of due n)
served-more served due rest number n there left =
    (λ i. list_any-append (nat_eq n) served (number ∷ []) i || left i)
    ∙ (λ i. (is_one_of served n || (flipped n number i || false)) || (not (nat_eq number n) && is_one_of due n))
    ∙ by (is_one_of served n) (nat_eq number n) refl
  where
    by : (a b : Bool) → nat_eq number n ≡ b → ((a || (b || false)) || (not b && is_one_of due n)) ≡ (a || is_one_of due n)
    by true b e = refl
    by false true e = sym ((λ i. is_one_of due (sym (eqb-true number n e) i)) ∙ there)
    by false false e = refl
