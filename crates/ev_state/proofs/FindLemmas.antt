-- A generation that is found by its number.
use Rattle.std.proofs.Common.{◌≡◌, ◌∙◌, ℕ, true, false, cond, nat_eq, List, [], ◌∷◌, None, Some, refl}
use Rattle.std.specs.List.{AllByRecursion, IsDistinct}
use Rattle.std.proofs.lemmas.Bool.{eqb-true}
use Rattle.std.proofs.lemmas.Map.Keys.{IsDistinct-head}
use Rattle.ev_types.specs.declared.rows.GenRow.{GenRow}
use Rattle.ev_indexes.specs.Tables.{row_in, numbers_of}

far_absent : (n : ℕ) (rows : List GenRow) → AllByRecursion (λ y. nat_eq n y ≡ false) (numbers_of rows) → row_in n rows ≡ None
far_absent n [] far = refl
far_absent n (row ∷ rows) far = (λ i. cond (far.0 i) (Some row) (row_in n rows)) ∙ far_absent n rows far.1

-- after a row no other has its number
pub none-behind : (n : ℕ) (row : GenRow) (rows : List GenRow) → IsDistinct nat_eq (numbers_of (row ∷ rows)) → nat_eq n row.number ≡ true → row_in n rows ≡ None
none-behind n row rows apart is =
    (λ i. row_in (eqb-true n row.number is i) rows) ∙ far_absent row.number rows (IsDistinct-head nat_eq row.number (numbers_of rows) apart)
