-- The rows of a world, whose numbers rise, are found by the numbers that were allocated.
use Rattle.std.proofs.Common.{◌≡◌, ℕ, zero, suc, ◌<◌, ◌≤◌, ◌==◌, Bool, true, false, cond, List, [], ◌∷◌, ◌++◌, map, filter, nat_le, ◌⊎◌, inl, inr, Some, option_to_list, refl, sym, ap, ◌∙◌, arith}
use Rattle.std.proofs.lemmas.Bool.{cases_order}
use Rattle.std.proofs.lemmas.Bool.Decides.{nat_tests}
use Rattle.ev_types.specs.declared.rows.GenRow.{GenRow}
use Rattle.ev_types.specs.declared.events.Entry.{Entry}
use Rattle.ev_types.specs.declared.journals.Format.{Format}
use Rattle.ev_model.specs.World.{World, opening}
use Rattle.ev_model.specs.Runs.{world_after}
use Rattle.ev_model_laws.specs.Numbers.{IsNumbered, RiseWithin}
use Rattle.ev_model_laws.proofs.NumberLemmas.{draws_in_order}
use Rattle.ev_model_laws.specs.ByNumber.{row_numbered, rows_numbered}

-- its number is at most this one
abbrev is_within : ℕ → GenRow → Bool
is_within n row = nat_le row.number n

abbrev numbers : List GenRow → List ℕ
numbers rows = map (λ (row : GenRow). row.number) rows

rise_le : (low high : ℕ) (rows : List GenRow) → RiseWithin low (numbers rows) high → low ≤ high
rise_le low high [] rise = rise
rise_le low high (row ∷ rows) rise =
    let above : low < row.number = rise.0 in
    let rest : row.number ≤ high = rise_le row.number high rows rise.1 in
    omega arith

le_true : (m n : ℕ) → m ≤ n → nat_le m n ≡ true
le_true m n h = grind (arith, nat_tests)

le_false : (m n : ℕ) → n < m → nat_le m n ≡ false
le_false m n h = grind (arith, nat_tests)

eq_true : (m n : ℕ) → m ≡ n → (m == n) ≡ true
eq_true m n h = grind (arith, nat_tests)

gt_false : (m n : ℕ) → m < n → (m == n) ≡ false
gt_false m n h = grind (arith, nat_tests)

lt_false : (m n : ℕ) → n < m → (m == n) ≡ false
lt_false m n h = grind (arith, nat_tests)

-- of rows whose numbers are above a number none is within it
none_within : (n low high : ℕ) (rows : List GenRow) → RiseWithin low (numbers rows) high → n ≤ low → filter (is_within n) rows ≡ []
none_within n low high [] rise below = refl
none_within n low high (row ∷ rows) rise below =
    let above : low < row.number = rise.0 in
    ap (λ b. cond b (row ∷ filter (is_within n) rows) (filter (is_within n) rows)) (le_false row.number n (omega arith))
    ∙ none_within n row.number high rows rise.1 (omega arith)

-- one number more
one_more : (n low high : ℕ) (rows : List GenRow) → RiseWithin low (numbers rows) high
    → filter (is_within (suc n)) rows ≡ filter (is_within n) rows ++ option_to_list (row_numbered (suc n) rows)
one_more n low high [] rise = refl
one_more n low high (row ∷ rows) rise = by (one_more n row.number high rows rise.1) (cases_order row.number (suc n))
  where
    tested : (a b c : Bool) → is_within (suc n) row ≡ a → is_within n row ≡ b → (suc n == row.number) ≡ c
        → cond a (row ∷ filter (is_within (suc n)) rows) (filter (is_within (suc n)) rows)
        ≡ cond b (row ∷ filter (is_within n) rows) (filter (is_within n) rows) ++ option_to_list (cond c (Some row) (row_numbered (suc n) rows))
        → filter (is_within (suc n)) (row ∷ rows) ≡ filter (is_within n) (row ∷ rows) ++ option_to_list (row_numbered (suc n) (row ∷ rows))
    tested a b c is_a is_b is_c same =
        ap (λ t. cond t (row ∷ filter (is_within (suc n)) rows) (filter (is_within (suc n)) rows)) is_a
        ∙ same
        ∙ (λ i. cond (sym is_b i) (row ∷ filter (is_within n) rows) (filter (is_within n) rows) ++ option_to_list (cond (sym is_c i) (Some row) (row_numbered (suc n) rows)))

    by : filter (is_within (suc n)) rows ≡ filter (is_within n) rows ++ option_to_list (row_numbered (suc n) rows)
        → (row.number ≡ suc n) ⊎ ((row.number < suc n) ⊎ (suc n < row.number))
        → filter (is_within (suc n)) (row ∷ rows) ≡ filter (is_within n) (row ∷ rows) ++ option_to_list (row_numbered (suc n) (row ∷ rows))
    by rest (inr (inl less)) =
        tested true true false (le_true row.number (suc n) (omega arith)) (le_true row.number n (omega arith)) (lt_false (suc n) row.number less)
        (ap (λ others. row ∷ others) rest)
    by rest (inl same) =
        tested true false true (le_true row.number (suc n) (omega arith)) (le_false row.number n (omega arith)) (eq_true (suc n) row.number (sym same))
        (ap (λ rest. row ∷ rest) (none_within (suc n) row.number high rows rise.1 (omega arith))
        ∙ ap (λ (rest : List GenRow). rest ++ row ∷ []) (sym (none_within n row.number high rows rise.1 (omega arith))))
    by rest (inr (inr beyond)) =
        tested false false false (le_false row.number (suc n) beyond) (le_false row.number n (omega arith)) (gt_false (suc n) row.number beyond)
        rest

found_within : (n low high : ℕ) (rows : List GenRow) → RiseWithin low (numbers rows) high → rows_numbered n rows ≡ filter (is_within n) rows
found_within zero low high rows rise = sym (none_within 0 low high rows rise (omega arith))
found_within (suc n) low high rows rise =
    ap (λ (found : List GenRow). found ++ option_to_list (row_numbered (suc n) rows)) (found_within n low high rows rise)
    ∙ sym (one_more n low high rows rise)

all_within : (low high : ℕ) (rows : List GenRow) → RiseWithin low (numbers rows) high → filter (is_within high) rows ≡ rows
all_within low high [] rise = refl
all_within low high (row ∷ rows) rise =
    ap (λ b. cond b (row ∷ filter (is_within high) rows) (filter (is_within high) rows)) (le_true row.number high (rise_le row.number high rows rise.1))
    ∙ ap (λ rest. row ∷ rest) (all_within row.number high rows rise.1)

-- the rows are those of the numbers that were allocated
pub rows_by_number : (world : World) → IsNumbered world → rows_numbered world.made world.rows ≡ world.rows
rows_by_number world rise = found_within world.made 0 world.made world.rows rise ∙ all_within 0 world.made world.rows rise

pub stand_by_number : (format : Format) (workers : ℕ) (node : List ℕ) (entries : List Entry)
    → let world : World = world_after format (opening workers node) entries in rows_numbered world.made world.rows ≡ world.rows
stand_by_number format workers node entries =
    rows_by_number (world_after format (opening workers node) entries) (draws_in_order.runs format workers node entries)
