-- What holds of each of some rows.
use Rattle.std.proofs.Common.{◌≡◌, ℕ, Bool, true, false, cond, ◌||◌, nat_eq, List, [], ◌∷◌, Some, filter, refl, subst}
use Rattle.std.specs.List.{list_any, AllByRecursion}
use Rattle.ev_types.specs.declared.rows.GenRow.{GenRow}
use Rattle.ev_indexes.specs.Tables.{row_in, numbers_of}
use Rattle.ev_types.specs.declared.rows.RowStatus.{RowStatus}
use Rattle.ev_model.specs.Rows.{with_statuses}
use Rattle.ev_indexes.specs.Due.{has_number}
use Rattle.ev_indexes.specs.Indexes.{numbers_where}

-- what holds of each row holds of one that is found
pub all-at : (P : GenRow → Type 0) (n : ℕ) (row : GenRow) (rows : List GenRow) → row_in n rows ≡ Some row → AllByRecursion P rows → P row
all-at P n row [] at all = cc
all-at P n row (r ∷ rows) at all = by (nat_eq n r.number) at (λ h. all-at P n row rows h all.1)
  where
    by : (b : Bool) → cond b (Some r) (row_in n rows) ≡ Some row → (row_in n rows ≡ Some row → P row) → P row
    by true h rest =
        let same : r ≡ row = cc in
        subst P same all.0
    by false h rest = rest h

pub any-some : (test : GenRow → Bool) (rows : List GenRow) → list_any test rows ≡ has_number (numbers_where test rows)
any-some test [] = refl
any-some test (row ∷ rows) = by (test row) (any-some test rows)
  where
    by : (t : Bool) → list_any test rows ≡ has_number (numbers_where test rows) → (t || list_any test rows) ≡ has_number (numbers_of (cond t (row ∷ filter test rows) (filter test rows)))
    by true rest = refl
    by false rest = rest

-- tests that agree on each of these rows leave the same
pub filter_agrees : (f g : GenRow → Bool) (rows : List GenRow) → AllByRecursion (λ (r : GenRow). f r ≡ g r) rows → filter f rows ≡ filter g rows
filter_agrees f g [] all = refl
filter_agrees f g (row ∷ rows) all = λ i. cond (all.0 i) (row ∷ filter_agrees f g rows all.1 i) (filter_agrees f g rows all.1 i)

pub any_agrees : (f g : GenRow → Bool) (rows : List GenRow) → AllByRecursion (λ (r : GenRow). f r ≡ g r) rows → list_any f rows ≡ list_any g rows
any_agrees f g [] all = refl
any_agrees f g (row ∷ rows) all = λ i. all.0 i || any_agrees f g rows all.1 i

pub all_then : (P Q : GenRow → Type 0) (rows : List GenRow) → ((r : GenRow) → P r → Q r) → AllByRecursion P rows → AllByRecursion Q rows
all_then P Q [] f all = tt
all_then P Q (row ∷ rows) f all = (f row all.0, all_then P Q rows f all.1)

pub both_all : (P Q : GenRow → Type 0) (rows : List GenRow) → AllByRecursion P rows → AllByRecursion Q rows → AllByRecursion (λ (r : GenRow). P r × Q r) rows
both_all P Q [] p q = tt
both_all P Q (row ∷ rows) p q = ((p.0, q.0), both_all P Q rows p.1 q.1)

-- two ways of statuses that agree on each of these rows
pub statuses_agree : (f g : GenRow → RowStatus) (rows : List GenRow) → AllByRecursion (λ (r : GenRow). f r ≡ g r) rows → with_statuses f rows ≡ with_statuses g rows
statuses_agree f g [] all = refl
statuses_agree f g (row ∷ rows) all = λ i. record row { status = all.0 i } ∷ statuses_agree f g rows all.1 i
