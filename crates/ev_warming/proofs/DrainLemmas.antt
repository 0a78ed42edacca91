-- Which generations a promotion makes drain, one after another.
use Rattle.std.proofs.Common.{◌≡◌, ◌∙◌, ℕ, Bool, true, false, cond, ◌&&◌, ◌||◌, nat_eq, List, ◌++◌, Option, None, Some, option_map, option_to_list, refl, sym, ap, true≢false}
use Rattle.std.specs.List.{IsDistinct}
use Rattle.std.proofs.lemmas.Bool.{eqb-true, and_parts}
use Rattle.std.proofs.lemmas.List.Folds.{list_any-append}
use Rattle.ev_types.specs.Statuses.{is_warming, is_active}
use Rattle.ev_types.specs.declared.rows.RowStatus.{RowStatus}
use Rattle.ev_types.specs.declared.rows.RowStatus.TheVariants.{Warming, Active, Draining, Dropped}
use Rattle.ev_types.specs.declared.rows.GenRow.{GenRow}
use Rattle.ev_model.specs.Rows.{with_statuses}
use Rattle.ev_model.specs.Signals.{is_draining}
use Rattle.ev_model.specs.Tidy.{status_by}
use Rattle.ev_indexes.specs.KeptEndpoints.{ResultsKept}
use Rattle.ev_indexes.specs.Tables.{row_in, status_with, with_status, numbers_of}
use Rattle.ev_indexes.proofs.TableLemmas.{row_in-with_statuses, number-row_in}
use Rattle.ev_indexes.specs.Due.{is_one_of}
use Rattle.ev_indexes.specs.Watched.{WatchesKept}
use Rattle.ev_indexes.specs.Ready.{is_ready_in, is_due_found}
use Rattle.ev_indexes.specs.Indexes.{is_of, key_of_row, serves, numbers_where, status_in}
use Rattle.ev_warming.specs.Promotion.{succeeded_by, rows_promoted, status_drained}
use Rattle.ev_warming.specs.Changes.{began_to_drain}
use Rattle.ev_indexes.proofs.WhereLemmas.{among-where, found-where}

-- the status of a row once all that are ready serve
pub status-promoted : (ready : GenRow → Bool) (rows : List GenRow) (n : ℕ) (row : GenRow) → row_in n rows ≡ Some row
    → status_in (row_in n (rows_promoted ready rows)) ≡ status_by (succeeded_by ready rows row) (ready row) row.status
status-promoted ready rows n row at =
    let f = λ (r : GenRow). status_by (succeeded_by ready rows r) (ready r) r.status in
    ap status_in (row_in-with_statuses n f rows) ∙ (λ i. status_in (option_map (λ (r : GenRow). record r { status = f r }) (at i)))

-- a number whose row isn't there, or fails the test, isn't among those that pass
pub absent-where : (test : GenRow → Bool) (n : ℕ) (rows : List GenRow) → IsDistinct nat_eq (numbers_of rows) → row_in n rows ≡ None → is_one_of (numbers_where test rows) n ≡ false
absent-where test n rows apart none = by (is_one_of (numbers_where test rows) n) refl
  where
    by : (b : Bool) → is_one_of (numbers_where test rows) n ≡ b → b ≡ false
    by true e =
        let found = found-where test n rows apart e in
        let clash : None ≡ Some found.0 = sym none ∙ found.1 in
        cc
    by false e = refl

pub fails-where : (test : GenRow → Bool) (n : ℕ) (row : GenRow) (rows : List GenRow) → IsDistinct nat_eq (numbers_of rows) → row_in n rows ≡ Some row → test row ≡ false
    → is_one_of (numbers_where test rows) n ≡ false
fails-where test n row rows apart at fails = by (is_one_of (numbers_where test rows) n) refl
  where
    by : (b : Bool) → is_one_of (numbers_where test rows) n ≡ b → b ≡ false
    by true e =
        let found = found-where test n rows apart e in
        let both : Some found.0 ≡ Some row = sym found.1 ∙ at in
        let same : found.0 ≡ row = cc in
        absurd (true≢false (sym found.2 ∙ ap test same ∙ fails))
    by false e = refl

warm-is : (status : RowStatus) → is_warming status ≡ true → status ≡ Warming
warm-is Warming h = refl
warm-is Active h = absurd (true≢false (sym h))
warm-is Draining h = absurd (true≢false (sym h))
warm-is Dropped h = absurd (true≢false (sym h))

pub cold-active : (status : RowStatus) → is_active status ≡ true → is_warming status ≡ false
cold-active Active h = refl
cold-active Warming h = absurd (true≢false (sym h))
cold-active Draining h = absurd (true≢false (sym h))
cold-active Dropped h = absurd (true≢false (sym h))

-- a row that is due is there, warms and is ready
pub due-found : (watches : WatchesKept) (results : ResultsKept) (o : Option GenRow) → is_due_found watches results o ≡ true
    → (row : GenRow) × (o ≡ Some row) × (is_warming row.status ≡ true) × (is_ready_in watches results row ≡ true)
due-found watches results None h = absurd (true≢false (sym h))
due-found watches results (Some row) h =
    let p = and_parts (is_warming row.status) (is_ready_in watches results row) h in
    (row, refl, p.0, p.1)

-- one of them serves, and the one before it drains
module _ (ready : GenRow → Bool) (rows after all : List GenRow) (number : ℕ) (own : GenRow) (active : Option ℕ)
    (apart : IsDistinct nat_eq (numbers_of rows)) (found : row_in number rows ≡ Some own) (warm : is_warming own.status ≡ true) (can : ready own ≡ true)
    (before : option_to_list active ≡ numbers_where (serves (key_of_row own)) rows)
    (changed : after ≡ with_status number Active (with_statuses (status_drained (key_of_row own)) rows))
    (first : rows_promoted ready rows ≡ all) (then : rows_promoted ready after ≡ all) where
  status-after : (n : ℕ) (o : Option GenRow) → row_in n rows ≡ o
      → row_in n after ≡ option_map (λ (r : GenRow). record r { status = cond (nat_eq number r.number) Active (status_drained (key_of_row own) r) }) o
  status-after n o at =
      (λ i. row_in n (changed i))
      ∙ row_in-with_statuses n (status_with number Active) (with_statuses (status_drained (key_of_row own)) rows)
      ∙ (λ i. option_map (λ (r : GenRow). record r { status = status_with number Active r }) (row_in-with_statuses n (status_drained (key_of_row own)) rows i))
      ∙ (λ i. option_map (λ (r : GenRow). record r { status = status_with number Active r }) (option_map (λ (r : GenRow). record r { status = status_drained (key_of_row own) r }) (at i)))
      ∙ twice o
    where
      twice : (o : Option GenRow) → option_map (λ (r : GenRow). record r { status = status_with number Active r }) (option_map (λ (r : GenRow). record r { status = status_drained (key_of_row own) r }) o)
          ≡ option_map (λ (r : GenRow). record r { status = cond (nat_eq number r.number) Active (status_drained (key_of_row own) r) }) o
      twice None = refl
      twice (Some r) = refl

  own-is : (n : ℕ) (r : GenRow) → row_in n rows ≡ Some r → nat_eq number r.number ≡ true → r ≡ own
  own-is n r at e =
      let same : n ≡ number = sym (number-row_in n r rows at) ∙ sym (eqb-true number r.number e) in
      let both : Some r ≡ Some own = sym at ∙ (λ i. row_in (same i) rows) ∙ found in
      cc

  -- the row drains in the end
  gone : (n : ℕ) (r : GenRow) → row_in n rows ≡ Some r → serves (key_of_row own) r ≡ true → nat_eq number r.number ≡ false → is_draining (status_in (row_in n all)) ≡ true
  gone n r at served other =
      let new : row_in n after ≡ Some (record r { status = Draining }) =
      status-after n (Some r) at ∙ (λ i. Some (record r { status = cond (other i) Active (cond (served i) Draining r.status) })) in
      (λ i. is_draining (status_in (row_in n (sym then i)))) ∙ ap is_draining (status-promoted ready after n (record r { status = Draining }) new)

  -- the row serves in the end
  stays : (n : ℕ) (r : GenRow) → row_in n rows ≡ Some r → r ≡ own → is_draining (status_in (row_in n all)) ≡ false
  stays n r at same =
      let warms : r.status ≡ Warming = (λ i. (same i).status) ∙ warm-is own.status warm in
      let does : ready r ≡ true = ap ready same ∙ can in
      (λ i. is_draining (status_in (row_in n (sym first i)))) ∙ ap is_draining (status-promoted ready rows n r at)
      ∙ (λ i. is_draining (status_by (succeeded_by ready rows r) (does i) (warms i)))

  pub drained-one : (n : ℕ) → (is_one_of (option_to_list active) n || began_to_drain n after all) ≡ began_to_drain n rows all
  drained-one n = by (row_in n rows) refl
    where
      cold : is_active own.status ≡ false
      cold = (λ i. is_active (warm-is own.status warm i))

      over : (r : GenRow) → row_in n rows ≡ Some r → (b : Bool) → serves (key_of_row own) r ≡ b → (c : Bool) → nat_eq number r.number ≡ c
          → (is_one_of (option_to_list active) n || (is_active (cond c Active (cond b Draining r.status)) && is_draining (status_in (row_in n all)))) ≡ (is_active r.status && is_draining (status_in (row_in n all)))
      over r at true e true f =
          absurd (true≢false (sym warm ∙ (λ i. is_warming (sym (own-is n r at f) i).status) ∙ cold-active r.status (and_parts (is_active r.status) (is_of (key_of_row own) r) e).0))
      over r at true e false f =
          (λ i. is_one_of (before i) n || (false && is_draining (status_in (row_in n all))))
          ∙ (λ i. among-where (serves (key_of_row own)) n r rows at e i || (false && is_draining (status_in (row_in n all))))
          ∙ sym (λ i. (and_parts (is_active r.status) (is_of (key_of_row own) r) e).0 i && gone n r at e f i)
      over r at false e true f =
          (λ i. is_one_of (before i) n || is_draining (status_in (row_in n all)))
          ∙ (λ i. fails-where (serves (key_of_row own)) n r rows apart at e i || stays n r at (own-is n r at f) i)
          ∙ (λ i. sym ((λ j. is_active (own-is n r at f j).status) ∙ cold) i && is_draining (status_in (row_in n all)))
      over r at false e false f =
          (λ i. is_one_of (before i) n || (is_active r.status && is_draining (status_in (row_in n all))))
          ∙ (λ i. fails-where (serves (key_of_row own)) n r rows apart at e i || (is_active r.status && is_draining (status_in (row_in n all))))

      by : (o : Option GenRow) → row_in n rows ≡ o → (is_one_of (option_to_list active) n || began_to_drain n after all) ≡ began_to_drain n rows all
      by None at =
          (λ i. is_one_of (before i) n || (is_active (status_in (status-after n None at i)) && is_draining (status_in (row_in n all))))
          ∙ (λ i. absent-where (serves (key_of_row own)) n rows apart at i || false)
          ∙ (λ i. is_active (status_in (sym at i)) && is_draining (status_in (row_in n all)))
      by (Some r) at =
          (λ i. is_one_of (option_to_list active) n || (is_active (status_in (status-after n (Some r) at i)) && is_draining (status_in (row_in n all))))
          ∙ over r at (serves (key_of_row own) r) refl (nat_eq number r.number) refl
          ∙ (λ i. is_active (status_in (sym at i)) && is_draining (status_in (row_in n all)))

-- one more of those that began to drain
pub drained-more : (drained : List ℕ) (active : Option ℕ) (n : ℕ) (rest now was : Bool) → (is_one_of (option_to_list active) n || rest) ≡ now → (is_one_of drained n || now) ≡ was
    → (is_one_of (drained ++ option_to_list active) n || rest) ≡ was
drained-more drained active n rest now was step inv =
    (λ i. list_any-append (nat_eq n) drained (option_to_list active) i || rest)
    ∙ by (is_one_of drained n) (is_one_of (option_to_list active) n)
    ∙ (λ i. is_one_of drained n || step i) ∙ inv
  where
    by : (a b : Bool) → ((a || b) || rest) ≡ (a || (b || rest))
    by true b = refl
    by false b = refl

-- nothing drains that serves
pub drained-done : (n : ℕ) (rows : List GenRow) → began_to_drain n rows rows ≡ false
drained-done n rows = by (status_in (row_in n rows))
  where
    by : (status : RowStatus) → (is_active status && is_draining status) ≡ false
    by Warming = refl
    by Active = refl
    by Draining = refl
    by Dropped = refl
