-- Promoting the generation of one name first changes nothing of the whole promotion; and where none is due, promotion
-- does nothing.
use Rattle.std.proofs.Common.{◌≡◌, ◌∙◌, Bool, true, false, cond, ◌&&◌, ◌||◌, List, [], ◌∷◌, refl, sym, ap, true≢false}
use Rattle.std.specs.List.{list_any, AllByRecursion}
use Rattle.std.proofs.lemmas.Bool.{false_from_ne_true, and_right}
use Rattle.ev_types.specs.Statuses.{is_warming, is_active}
use Rattle.ev_types.specs.declared.rows.RowStatus.{RowStatus}
use Rattle.ev_types.specs.declared.rows.RowStatus.TheVariants.{Warming, Active, Draining, Dropped}
use Rattle.ev_types.specs.declared.rows.GenRow.{GenRow}
use Rattle.ev_model.specs.Rows.{is_row_of, with_statuses}
use Rattle.ev_model.specs.Tidy.{status_by}
use Rattle.ev_lookups.specs.Keys.{key_decides}
use Rattle.ev_lookups.specs.declared.kind_keys.Key.{Key}
use Rattle.ev_indexes.specs.Indexes.{is_of, key_of_row, serves, warms}
use Rattle.ev_warming.specs.Promotion.{succeeded_by, rows_promoted}
use Rattle.ev_indexes.proofs.WhereLemmas.{row_with}
use Rattle.ev_indexes.proofs.RowLemmas.{any_agrees, all_then, statuses_agree}

-- the status of a row once the generation that warms under a name serves
abbrev pub status_once : Key → GenRow → RowStatus
status_once key row = cond (warms key row) Active (cond (serves key row) Draining row.status)

-- these rows once the generation that warms under this name serves
abbrev pub rows_once : Key → List GenRow → List GenRow
rows_once key rows = with_statuses (status_once key) rows

any-with_statuses : (f : GenRow → Bool) (status_of : GenRow → RowStatus) (rows : List GenRow)
    → list_any f (with_statuses status_of rows) ≡ list_any (λ (r : GenRow). f (row_with (status_of r) r)) rows
any-with_statuses f status_of [] = refl
any-with_statuses f status_of (row ∷ rows) = ap (λ b. f (row_with (status_of row) row) || b) (any-with_statuses f status_of rows)

none_of : (rows : List GenRow) → list_any (λ (r : GenRow). false) rows ≡ false
none_of [] = refl
none_of (row ∷ rows) = none_of rows

all_of : (P : GenRow → Type 0) → ((r : GenRow) → P r) → (rows : List GenRow) → AllByRecursion P rows
all_of P h [] = tt
all_of P h (row ∷ rows) = (h row, all_of P h rows)

-- statuses of rows that have other statuses
pub with_statuses-twice : (f g : GenRow → RowStatus) (rows : List GenRow) → with_statuses f (with_statuses g rows) ≡ with_statuses (λ (r : GenRow). f (row_with (g r) r)) rows
with_statuses-twice f g [] = refl
with_statuses-twice f g (row ∷ rows) = ap (λ (rs : List GenRow). row_with (f (row_with (g row) row)) row ∷ rs) (with_statuses-twice f g rows)

-- the statuses that rows have
pub statuses_same : (rows : List GenRow) → with_statuses (λ (r : GenRow). r.status) rows ≡ rows
statuses_same [] = refl
statuses_same (row ∷ rows) = ap (λ (rs : List GenRow). row ∷ rs) (statuses_same rows)

-- a row's own kind and name are those that rows are searched for by it
own-key : (key : Key) (x : GenRow) → is_of key x ≡ true → key_of_row x ≡ key
own-key key x own = (key_decides (key_of_row x) key).0 own

module _ (ready : GenRow → Bool) (steady : (status : RowStatus) (row : GenRow) → ready (row_with status row) ≡ ready row) (key : Key) (rows : List GenRow)
    (due : list_any (λ (r : GenRow). warms key r && ready r) rows ≡ true)
    (readies : AllByRecursion (λ (r : GenRow). warms key r ≡ true → ready r ≡ true) rows) where
  -- who succeeds a row once the name's generation serves
  succ_once : GenRow → Bool
  succ_once x = list_any (λ (y : GenRow). is_row_of x.kind x.name y && (is_warming (status_once key y) && ready y)) rows

  succeeded_by-once : (x : GenRow) (status : RowStatus) → succeeded_by ready (rows_once key rows) (row_with status x) ≡ succ_once x
  unfolding succ_once
  succeeded_by-once x status =
      any-with_statuses (λ (y : GenRow). is_row_of x.kind x.name y && (is_warming y.status && ready y)) (status_once key) rows
      ∙ (λ i. list_any (λ (y : GenRow). is_row_of x.kind x.name y && (is_warming (status_once key y) && steady (status_once key y) y i)) rows)

  -- the name itself has no successor any more
  once_none : (x : GenRow) → is_of key x ≡ true → succ_once x ≡ false
  unfolding succ_once
  once_none x own = any_agrees (λ (y : GenRow). is_row_of x.kind x.name y && (is_warming (status_once key y) && ready y)) (λ (y : GenRow). false) rows
      (all_of (λ (y : GenRow). (is_row_of x.kind x.name y && (is_warming (status_once key y) && ready y)) ≡ false) over rows) ∙ none_of rows
    where
      by : (y : GenRow) (w b : Bool) → is_warming y.status ≡ w → (v : Bool)
          → (b && (is_warming (cond (w && b) Active (cond v Draining y.status)) && ready y)) ≡ false
      by y true true e v = refl
      by y false true e true = refl
      by y false true e false = λ i. e i && ready y
      by y w false e v = refl

      over : (y : GenRow) → (is_row_of x.kind x.name y && (is_warming (status_once key y) && ready y)) ≡ false
      over y =
          (λ i. is_of (own-key key x own i) y && (is_warming (status_once key y) && ready y))
          ∙ by y (is_warming y.status) (is_of key y) refl (serves key y)

  -- the generation that serves the name has a successor
  before_some : (x : GenRow) → is_of key x ≡ true → succeeded_by ready rows x ≡ true
  before_some x own =
      any_agrees (λ (y : GenRow). is_row_of x.kind x.name y && (is_warming y.status && ready y)) (λ (y : GenRow). warms key y && ready y) rows
      (all_of (λ (y : GenRow). (is_row_of x.kind x.name y && (is_warming y.status && ready y)) ≡ (warms key y && ready y)) over rows) ∙ due
    where
      by : (w b r : Bool) → (b && (w && r)) ≡ ((w && b) && r)
      by true true r = refl
      by true false r = refl
      by false true r = refl
      by false false r = refl

      over : (y : GenRow) → (is_row_of x.kind x.name y && (is_warming y.status && ready y)) ≡ (warms key y && ready y)
      over y =
          (λ i. is_of (own-key key x own i) y && (is_warming y.status && ready y))
          ∙ by (is_warming y.status) (is_of key y) (ready y)

  -- rows of other names have the successors that they had
  others_same : (x : GenRow) → is_of key x ≡ false → succ_once x ≡ succeeded_by ready rows x
  unfolding succ_once
  others_same x other =
      any_agrees (λ (y : GenRow). is_row_of x.kind x.name y && (is_warming (status_once key y) && ready y)) (λ (y : GenRow). is_row_of x.kind x.name y && (is_warming y.status && ready y)) rows
      (all_of (λ (y : GenRow). (is_row_of x.kind x.name y && (is_warming (status_once key y) && ready y)) ≡ (is_row_of x.kind x.name y && (is_warming y.status && ready y))) over rows)
    where
      apart : (y : GenRow) → is_of key y ≡ true → is_of (key_of_row x) y ≡ false
      apart y own = false_from_ne_true (is_of (key_of_row x) y) (λ h.
          true≢false (sym ((key_decides (key_of_row x) key).1 (sym (own-key (key_of_row x) y h) ∙ own-key key y own)) ∙ other))

      by : (y : GenRow) (b w v : Bool) → (b ≡ true → is_of (key_of_row x) y ≡ false)
          → (is_row_of x.kind x.name y && (is_warming (cond (w && b) Active (cond (v && b) Draining y.status)) && ready y)) ≡ (is_row_of x.kind x.name y && (is_warming y.status && ready y))
      by y true w v far =
          (λ i. far refl i && (is_warming (cond (w && true) Active (cond (v && true) Draining y.status)) && ready y))
          ∙ (λ i. sym (far refl) i && (is_warming y.status && ready y))
      by y false true true far = refl
      by y false true false far = refl
      by y false false true far = refl
      by y false false false far = refl

      over : (y : GenRow) → (is_row_of x.kind x.name y && (is_warming (status_once key y) && ready y)) ≡ (is_row_of x.kind x.name y && (is_warming y.status && ready y))
      over y = by y (is_of key y) (is_warming y.status) (is_active y.status) (apart y)

  -- promoting one name first changes nothing of the whole
  pub rows_promoted-once : rows_promoted ready (rows_once key rows) ≡ rows_promoted ready rows
  rows_promoted-once =
      with_statuses-twice (λ (r : GenRow). status_by (succeeded_by ready (rows_once key rows) r) (ready r) r.status) (status_once key) rows
      ∙ statuses_agree (λ (x : GenRow). status_by (succeeded_by ready (rows_once key rows) (row_with (status_once key x) x)) (ready (row_with (status_once key x) x)) (status_once key x))
      (λ (r : GenRow). status_by (succeeded_by ready rows r) (ready r) r.status) rows
      (all_then (λ (x : GenRow). warms key x ≡ true → ready x ≡ true)
      (λ (x : GenRow). status_by (succeeded_by ready (rows_once key rows) (row_with (status_once key x) x)) (ready (row_with (status_once key x) x)) (status_once key x)
      ≡ status_by (succeeded_by ready rows x) (ready x) x.status)
      rows over readies)
    where
      by : (x : GenRow) → (st : RowStatus) → x.status ≡ st → (b : Bool) → is_of key x ≡ b → ((is_warming st && b) ≡ true → ready x ≡ true)
          → status_by (succ_once x) (ready x) (cond (is_warming st && b) Active (cond (is_active st && b) Draining st)) ≡ status_by (succeeded_by ready rows x) (ready x) st
      by x Warming e true f r = (λ i. cond (once_none x f i) Draining Active) ∙ (λ i. cond (sym (r refl) i) Active Warming)
      by x Warming e false f r = refl
      by x Active e true f r = (λ i. cond (sym (before_some x f) i) Draining Active)
      by x Active e false f r = (λ i. cond (others_same x f i) Draining Active)
      by x Draining e b f r = refl
      by x Dropped e b f r = refl

      over : (x : GenRow) → (warms key x ≡ true → ready x ≡ true)
          → status_by (succeeded_by ready (rows_once key rows) (row_with (status_once key x) x)) (ready (row_with (status_once key x) x)) (status_once key x)
          ≡ status_by (succeeded_by ready rows x) (ready x) x.status
      over x r =
          (λ i. status_by (succeeded_by-once x (status_once key x) i) (steady (status_once key x) x i) (status_once key x))
          ∙ by x x.status refl (is_of key x) refl r

-- where no row is due, promotion does nothing
pub rows_promoted-none : (ready : GenRow → Bool) (rows : List GenRow) → AllByRecursion (λ (r : GenRow). (is_warming r.status && ready r) ≡ false) rows → rows_promoted ready rows ≡ rows
rows_promoted-none ready rows none =
    statuses_agree (λ (x : GenRow). status_by (succeeded_by ready rows x) (ready x) x.status) (λ (r : GenRow). r.status) rows
    (all_then (λ (x : GenRow). (is_warming x.status && ready x) ≡ false) (λ (x : GenRow). status_by (succeeded_by ready rows x) (ready x) x.status ≡ x.status) rows over none)
    ∙ statuses_same rows
  where
    nobody : (x : GenRow) → succeeded_by ready rows x ≡ false
    nobody x =
        any_agrees (λ (y : GenRow). is_row_of x.kind x.name y && (is_warming y.status && ready y)) (λ (y : GenRow). false) rows
        (all_then (λ (y : GenRow). (is_warming y.status && ready y) ≡ false) (λ (y : GenRow). (is_row_of x.kind x.name y && (is_warming y.status && ready y)) ≡ false) rows
        (λ y h. ap (λ b. is_row_of x.kind x.name y && b) h ∙ and_right (is_row_of x.kind x.name y) false refl) none)
        ∙ none_of rows

    by : (x : GenRow) (st : RowStatus) → x.status ≡ st → (is_warming st && ready x) ≡ false → status_by (succeeded_by ready rows x) (ready x) st ≡ st
    by x Warming e h = λ i. cond (h i) Active Warming
    by x Active e h = λ i. cond (nobody x i) Draining Active
    by x Draining e h = refl
    by x Dropped e h = refl

    over : (x : GenRow) → (is_warming x.status && ready x) ≡ false → status_by (succeeded_by ready rows x) (ready x) x.status ≡ x.status
    over x h = by x x.status refl h
