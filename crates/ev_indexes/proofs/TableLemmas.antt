-- Look-ups in a list of rows by number, and what a change of one row's status does to them.
use Rattle.std.proofs.Common.{◌≡◌, ◌∙◌, ℕ, Bool, true, false, cond, not, nat_eq, List, [], ◌∷◌, Option, None, Some, option_map, refl, sym, ap, subst, arith, ◌<◌, ◌+◌, ⊎_elim}
use Rattle.std.specs.List.{IsDistinct, AllByRecursion}
use Rattle.std.proofs.lemmas.Bool.{eqb-true, eq-eqb, cases_lt}
use Rattle.ev_types.specs.declared.rows.RowStatus.{RowStatus}
use Rattle.ev_types.specs.declared.rows.GenRow.{GenRow}
use Rattle.ev_model.specs.Rows.{with_statuses}
use Rattle.ev_indexes.specs.Tables.{is_number, row_in, numbers_of, status_with, with_status, without_row, IsTable}

-- statuses leave the numbers
pub numbers_of-with_statuses : (f : GenRow → RowStatus) (rows : List GenRow) → numbers_of (with_statuses f rows) ≡ numbers_of rows
numbers_of-with_statuses f [] = refl
numbers_of-with_statuses f (row ∷ rows) = ap (λ ns. row.number ∷ ns) (numbers_of-with_statuses f rows)

-- the row of a number among rows with other statuses
pub row_in-with_statuses : (number : ℕ) (f : GenRow → RowStatus) (rows : List GenRow)
    → row_in number (with_statuses f rows) ≡ option_map (λ (row : GenRow). record row { status = f row }) (row_in number rows)
row_in-with_statuses number f [] = refl
row_in-with_statuses number f (row ∷ rows) = by (is_number number row) (row_in number rows) (row_in-with_statuses number f rows)
  where
    by : (b : Bool) {r : Option GenRow} (s : Option GenRow) → r ≡ option_map (λ (row : GenRow). record row { status = f row }) s
        → cond b (Some (record row { status = f row })) r ≡ option_map (λ (row : GenRow). record row { status = f row }) (cond b (Some row) s)
    by true s h = refl
    by false s h = h

-- no row of this number: a change of its status changes nothing
pub with_status-absent : (number : ℕ) (status : RowStatus) (rows : List GenRow) → row_in number rows ≡ None → with_status number status rows ≡ rows
with_status-absent number status [] none = refl
with_status-absent number status (row ∷ rows) none = by (is_number number row) none (with_status-absent number status rows)
  where
    by : (b : Bool) → cond b (Some row) (row_in number rows) ≡ None → (row_in number rows ≡ None → with_status number status rows ≡ rows)
        → (record row { status = cond b status row.status }) ∷ with_status number status rows ≡ row ∷ rows
    by true h rest = cc
    by false h rest = ap (λ (rs : List GenRow). row ∷ rs) (rest h)

-- no row of this number: nothing to take out
pub without_row-absent : (number : ℕ) (rows : List GenRow) → row_in number rows ≡ None → without_row number rows ≡ rows
without_row-absent number [] none = refl
without_row-absent number (row ∷ rows) none = by (is_number number row) none (without_row-absent number rows)
  where
    by : (b : Bool) → cond b (Some row) (row_in number rows) ≡ None → (row_in number rows ≡ None → without_row number rows ≡ rows)
        → cond (not b) (row ∷ without_row number rows) (without_row number rows) ≡ row ∷ rows
    by true h rest = cc
    by false h rest = ap (λ (rs : List GenRow). row ∷ rs) (rest h)

-- a row that is found has the number
pub number-row_in : (number : ℕ) (row : GenRow) (rows : List GenRow) → row_in number rows ≡ Some row → row.number ≡ number
number-row_in number row [] h = cc
number-row_in number row (other ∷ rows) h = by (nat_eq number other.number) refl h (number-row_in number row rows)
  where
    by : (b : Bool) → nat_eq number other.number ≡ b → cond b (Some other) (row_in number rows) ≡ Some row → (row_in number rows ≡ Some row → row.number ≡ number) → row.number ≡ number
    by true here at rest =
        let same : other ≡ row = cc in
        ap (λ (r : GenRow). r.number) (sym same) ∙ sym (eqb-true number other.number here)
    by false here at rest = rest at

-- a changed status leaves a table
pub table-with_status : (number : ℕ) (status : RowStatus) (rows : List GenRow) (made : ℕ) → IsTable (record { rows = rows; made = made })
    → IsTable (record { rows = with_status number status rows; made = made })
table-with_status number status rows made t = record {
  apart = subst (IsDistinct nat_eq) (sym (numbers_of-with_statuses (status_with number status) rows)) t.apart;
  drawn = λ n above. row_in-with_statuses n (status_with number status) rows ∙ ap (option_map (λ (row : GenRow). record row { status = status_with number status row })) (t.drawn n above);
}

-- the next number is above those of a table
pub below_next : (rows : List GenRow) (made : ℕ) → ((number : ℕ) → made < number → row_in number rows ≡ None) → AllByRecursion (λ n. n < made + 1) (numbers_of rows)
below_next [] made drawn = tt
below_next (row ∷ rows) made drawn = (
  ⊎_elim (λ above. absurd (own (nat_eq row.number row.number) (eq-eqb row.number row.number refl) (drawn row.number above))) (λ within. omega (arith, within)) (cases_lt made row.number),
  below_next rows made (λ number above. later (nat_eq number row.number) (drawn number above)),
)
  where
    own : (b : Bool) → b ≡ true → cond b (Some row) (row_in row.number rows) ≡ None → ⊥
    own true same h = cc
    own false same h = cc

    later : (b : Bool) {r : Option GenRow} → cond b (Some row) r ≡ None → r ≡ None
    later true h = cc
    later false h = h
