-- Of a kind and name at most one generation warms, and at most one serves.
use Rattle.std.proofs.Common.{◌≡◌, ℕ, ◌+◌, ◌≤◌, Bool, true, false, ◌&&◌, cond, List, [], ◌∷◌, ◌++◌, length, filter, refl, sym, ap, ap₂, ◌∙◌, subst₂, le_trans, length-append, arith}
use Rattle.std.specs.List.{list_any}
use Rattle.std.specs.Cmp.{first_so, second_so}
use Rattle.std.specs.Str.{bytes_eq}
use Rattle.std.proofs.lemmas.Bool.{false≢true, and_from, or_parts}
use Rattle.std.proofs.lemmas.List.Elements.{filter-append}
use Rattle.ev_types.specs.Kinds.{kind_same, kind_decides}
use Rattle.ev_types.specs.Same.{bytes_decide}
use Rattle.ev_types.specs.Statuses.{is_warming, is_active}
use Rattle.ev_types.specs.declared.contents.Kind.{Kind}
use Rattle.ev_types.specs.declared.contents.Content.{Content}
use Rattle.ev_types.specs.declared.rows.GenRow.{GenRow}
use Rattle.ev_types.specs.declared.rows.RowStatus.{RowStatus}
use Rattle.ev_types.specs.declared.rows.RowStatus.TheVariants.{Warming, Active, Draining, Dropped}
use Rattle.ev_types.specs.declared.rows.Phase.{Phase}
use Rattle.ev_model.specs.World.{Arrived, HealthResult, opening}
use Rattle.ev_model.specs.Warming.{is_ready_by}
use Rattle.ev_model.specs.Rows.{is_row_of, removed_status, with_statuses, replaced_status, new_row, rows_with_new}
use Rattle.ev_model.specs.Tidy.{is_due, has_successor, status_by, promoted_status, promoted_rows}
use Rattle.ev_model_laws.specs.OneAName.{warms_as, serves_as, AreSingle, StaysSingle}
use Rattle.ev_model_laws.proofs.CountLemmas.{count, fewer_by_one, fewer_left}
use Rattle.ev_model_laws.proofs.KeepLemmas.{removed_where, Keeps, step-keeps, run-keeps}
use Rattle.ev_types.specs.declared.origins.KeptChain.{KeptChain}

-- where no row is barred, and a row passes the one test with its new status only
-- if it passes the other or is barred, no more pass the one test with their new statuses than pass the other
fewer : (this that barred : GenRow → Bool) (status_of : GenRow → RowStatus) (rows : List GenRow)
    → list_any barred rows ≡ false
    → ((row : GenRow) → this (record row { status = status_of row }) ≡ true → barred row ≡ false → that row ≡ true)
    → count this (with_statuses status_of rows) ≤ count that rows
fewer this that barred status_of [] none implies = omega arith
fewer this that barred status_of (row ∷ rows) none implies =
    fewer_by_one (this (record row { status = status_of row })) (that row) (record row { status = status_of row }) row _ _
    (λ passes. implies row passes (or_parts (barred row) (list_any barred rows) none).0)
    (fewer this that barred status_of rows (or_parts (barred row) (list_any barred rows) none).1 implies)

nothing_barred : (rows : List GenRow) → list_any (λ row. false) rows ≡ false
nothing_barred [] = refl
nothing_barred (row ∷ rows) = nothing_barred rows

-- the same with no row barred
fewer_after : (this that : GenRow → Bool) (status_of : GenRow → RowStatus) (rows : List GenRow)
    → ((row : GenRow) → this (record row { status = status_of row }) ≡ true → that row ≡ true)
    → count this (with_statuses status_of rows) ≤ count that rows
fewer_after this that status_of rows implies =
    fewer this that (λ row. false) status_of rows (nothing_barred rows) (λ row passes free. implies row passes)

none_counted : (rows : List GenRow) → count (λ row. false) rows ≡ 0
none_counted [] = refl
none_counted (row ∷ rows) = none_counted rows

-- the second of two tests may be another that it implies
and_so : (first second other : Bool) → (second ≡ true → other ≡ true) → (first && second) ≡ true → (first && other) ≡ true
and_so true second other implies both = implies both
and_so false second other implies both = both

removed_warming : (test : Bool) (status : RowStatus) → is_warming (cond test (removed_status status) status) ≡ true → is_warming status ≡ true
removed_warming true Warming h = refl
removed_warming true Active h = h
removed_warming true Draining h = h
removed_warming true Dropped h = h
removed_warming false status h = h

pub removed_active : (test : Bool) (status : RowStatus) → is_active (cond test (removed_status status) status) ≡ true → is_active status ≡ true
removed_active true Warming h = h
removed_active true Active h = refl
removed_active true Draining h = h
removed_active true Dropped h = h
removed_active false status h = h

removed_single : (status_of : GenRow → RowStatus) (rows : List GenRow)
    → ((row : GenRow) → is_warming (status_of row) ≡ true → is_warming row.status ≡ true)
    → ((row : GenRow) → is_active (status_of row) ≡ true → is_active row.status ≡ true)
    → AreSingle rows → AreSingle (with_statuses status_of rows)
removed_single status_of rows warmed served single = record {
  one_warms = λ kind name. le_trans (fewer_after (warms_as kind name) (warms_as kind name) status_of rows
      (λ row. and_so (is_row_of kind name row) (is_warming (status_of row)) (is_warming row.status) (warmed row))) (single.one_warms kind name);
  one_serves = λ kind name. le_trans (fewer_after (serves_as kind name) (serves_as kind name) status_of rows
      (λ row. and_so (is_row_of kind name row) (is_active (status_of row)) (is_active row.status) (served row))) (single.one_serves kind name);
}

replaced_warming : (test : Bool) (status : RowStatus) → is_warming (cond test Dropped status) ≡ true → is_warming status ≡ true
replaced_warming true status h = absurd (false≢true h)
replaced_warming false status h = h

pub replaced_active : (test : Bool) (status : RowStatus) → is_active (cond test Dropped status) ≡ true → is_active status ≡ true
replaced_active true status h = absurd (false≢true h)
replaced_active false status h = h

-- a row that was replaced doesn't warm
replaced_cold : (named : Bool) (status : RowStatus) → (named && is_warming (cond (named && is_warming status) Dropped status)) ≡ true → false ≡ true
replaced_cold true Warming h = h
replaced_cold true Active h = h
replaced_cold true Draining h = h
replaced_cold true Dropped h = h
replaced_cold false status h = h

-- under the name of a new row nothing warms
none_warms : (kind : Kind) (name : List ℕ) (rows : List GenRow)
    → count (warms_as kind name) (with_statuses (replaced_status kind name) rows) ≤ 0
none_warms kind name rows =
    let le : count (warms_as kind name) (with_statuses (replaced_status kind name) rows) ≤ count (λ row. false) rows =
    fewer_after (warms_as kind name) (λ row. false) (replaced_status kind name) rows
    (λ row. replaced_cold (is_row_of kind name row) row.status) in
    omega (arith, le, none_counted rows)

none_warms_as : (kind asked : Kind) (name wanted : List ℕ) (rows : List GenRow)
    → (kind_same kind asked && bytes_eq name wanted) ≡ true
    → count (warms_as asked wanted) (with_statuses (replaced_status kind name) rows) ≤ 0
none_warms_as kind asked name wanted rows same =
    subst₂ (λ (k : Kind) (n : List ℕ). count (warms_as k n) (with_statuses (replaced_status kind name) rows) ≤ 0)
    ((kind_decides kind asked).0 (first_so _ _ same)) ((bytes_decide name wanted).0 (second_so _ _ same))
    (none_warms kind name rows)

counted_behind : (test : GenRow → Bool) (rows : List GenRow) (new : GenRow)
    → count test (rows ++ new ∷ []) ≡ count test rows + count test (new ∷ [])
counted_behind test rows new =
    ap length (filter-append test rows (new ∷ [])) ∙ length-append (filter test rows) (filter test (new ∷ []))

last_counted : (passes : Bool) (new : GenRow) (before : ℕ) → (passes ≡ true → before ≤ 0) → before ≤ 1
    → before + length (cond passes (new ∷ []) []) ≤ 1
last_counted true new before none one = omega (arith, none refl)
last_counted false new before none one = omega arith

-- where none of the first rows passes if the last one does, at most one passes
one_behind : (test : GenRow → Bool) (rows : List GenRow) (new : GenRow)
    → (test new ≡ true → count test rows ≤ 0) → count test rows ≤ 1 → count test (rows ++ new ∷ []) ≤ 1
one_behind test rows new none one =
    omega (arith, counted_behind test rows new, last_counted (test new) new (count test rows) none one)

added_single : (kind : Kind) (name : List ℕ) (content : Content) (kept : List KeptChain) (rows : List GenRow) (made : ℕ)
    → AreSingle rows → AreSingle (rows_with_new kind made name content kept rows)
added_single kind name content kept rows made single =
    let left : AreSingle (with_statuses (replaced_status kind name) rows) =
    removed_single (replaced_status kind name) rows
    (λ row. replaced_warming (is_row_of kind name row && is_warming row.status) row.status)
    (λ row. replaced_active (is_row_of kind name row && is_warming row.status) row.status) single in
    let olds : List GenRow = with_statuses (replaced_status kind name) rows in
    let new : GenRow = new_row kind made name content kept in
    record {
      one_warms = λ asked wanted. one_behind (warms_as asked wanted) olds new
          (λ same. none_warms_as kind asked name wanted rows (first_so _ _ same)) (left.one_warms asked wanted);
      one_serves = λ asked wanted. one_behind (serves_as asked wanted) olds new
          (λ same. absurd (false≢true (second_so (is_row_of asked wanted new) false same))) (left.one_serves asked wanted);
    }

promoted_warming : (succeeded ready : Bool) (status : RowStatus) → is_warming (status_by succeeded ready status) ≡ true → is_warming status ≡ true
promoted_warming succeeded ready Warming h = refl
promoted_warming true ready Active h = h
promoted_warming false ready Active h = h
promoted_warming succeeded ready Draining h = h
promoted_warming succeeded ready Dropped h = h

-- where a row has a successor it serves only if it warmed
succeeded_active : (succeeded ready : Bool) (status : RowStatus) → succeeded ≡ true → is_active (status_by succeeded ready status) ≡ true → is_warming status ≡ true
succeeded_active succeeded ready Warming due h = refl
succeeded_active true ready Active due h = h
succeeded_active false ready Active due h = due
succeeded_active succeeded ready Draining due h = h
succeeded_active succeeded ready Dropped due h = h

-- a row that isn't due serves only if it served
waiting_active : (named succeeded ready : Bool) (status : RowStatus)
    → (named && is_active (status_by succeeded ready status)) ≡ true
    → (named && (is_warming status && ready)) ≡ false
    → (named && is_active status) ≡ true
waiting_active true succeeded true Warming h free = sym free
waiting_active true succeeded false Warming h free = h
waiting_active true succeeded ready Active h free = refl
waiting_active true succeeded ready Draining h free = h
waiting_active true succeeded ready Dropped h free = h
waiting_active false succeeded ready status h free = h

module _ (arrivals : List Arrived) (results : List HealthResult) where
  -- the row is of this kind and name, and due
  abbrev due_as : Kind → List ℕ → GenRow → Bool
  due_as kind name row = is_row_of kind name row && is_due arrivals results row

  succeeded_as : (rows : List GenRow) (kind : Kind) (name : List ℕ) (row : GenRow)
      → list_any (due_as kind name) rows ≡ true → is_row_of kind name row ≡ true → has_successor arrivals results rows row ≡ true
  succeeded_as rows kind name row due named =
      ap₂ (λ (k : Kind) (n : List ℕ). list_any (due_as k n) rows)
      ((kind_decides row.kind kind).0 (first_so _ _ named)) ((bytes_decide row.name name).0 (second_so _ _ named))
      ∙ due

  promoted_serves : (rows : List GenRow) (kind : Kind) (name : List ℕ) (due : Bool) → list_any (due_as kind name) rows ≡ due
      → AreSingle rows → count (serves_as kind name) (promoted_rows arrivals results rows) ≤ 1
  promoted_serves rows kind name true is single =
      le_trans (fewer_after (serves_as kind name) (warms_as kind name) (promoted_status arrivals results rows) rows
      (λ row serves. let named : is_row_of kind name row ≡ true = first_so _ _ serves in
      and_from _ _ named (succeeded_active (has_successor arrivals results rows row) (is_ready_by arrivals results row) row.status
      (succeeded_as rows kind name row is named) (second_so _ _ serves))))
      (single.one_warms kind name)
  promoted_serves rows kind name false is single =
      le_trans (fewer (serves_as kind name) (serves_as kind name) (due_as kind name) (promoted_status arrivals results rows) rows is
      (λ row. waiting_active (is_row_of kind name row) (has_successor arrivals results rows row) (is_ready_by arrivals results row) row.status))
      (single.one_serves kind name)

  promoted_single : (rows : List GenRow) → AreSingle rows → AreSingle (promoted_rows arrivals results rows)
  promoted_single rows single = record {
    one_warms = λ kind name. le_trans (fewer_after (warms_as kind name) (warms_as kind name) (promoted_status arrivals results rows) rows
        (λ row. and_so (is_row_of kind name row) _ _
        (promoted_warming (has_successor arrivals results rows row) (is_ready_by arrivals results row) row.status)))
        (single.one_warms kind name);
    one_serves = λ kind name. promoted_serves rows kind name (list_any (due_as kind name) rows) refl single;
  }

keeps_single : Keeps (λ rows (made : ℕ) (phase : Phase). AreSingle rows)
keeps_single = record {
  removed = λ goes rows made phase single. removed_single (removed_where goes) rows
      (λ row. removed_warming _ row.status) (λ row. removed_active _ row.status) single;
  added = λ kind name content kept rows made phase single. added_single kind name content kept rows made single;
  left = λ test rows made phase single. record {
    one_warms = λ kind name. le_trans (fewer_left (warms_as kind name) test rows) (single.one_warms kind name);
    one_serves = λ kind name. le_trans (fewer_left (serves_as kind name) test rows) (single.one_serves kind name);
  };
  tidied = λ world single. promoted_single world.arrivals world.results world.rows single;
}

opens_single : AreSingle []
opens_single = record { one_warms = λ kind name. omega arith; one_serves = λ kind name. omega arith }

pub stays_single : StaysSingle
stays_single = record {
  opens = λ workers node. opens_single;
  steps = λ format world actor event single. step-keeps _ keeps_single format world actor event single;
  runs = λ format workers node entries. run-keeps _ keeps_single format (opening workers node) entries opens_single;
}
