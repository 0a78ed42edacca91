-- The rows that are marked.
use Rattle.std.proofs.Common.{◌≡◌, ◌∙◌, refl, sym, ap, ℕ, suc, ◌+◌, ◌-◌, ◌<◌, ◌≤◌, Bool, true, false, cond, List, [], ◌∷◌, map, filter, length, drop, get_or, drop-cons, ◌≢◌, ◌⊎◌, inl, inr, arith}
use Rattle.std.proofs.lemmas.Bool.{cases_lt}
use Rattle.std.proofs.lemmas.List.{drop_all}
use Rattle.ev_types.specs.Hosts.{HostRowParts}
use Rattle.ev_types.specs.SameHosts.{rows_same, rows_decide}
use Rattle.ev_hosts.specs.Bits.{count_set}
use Rattle.ev_hosts.specs.Chosen.{chosen_by}

-- where the rows that pass a test are marked, these are chosen
pub chosen_map : (test : HostRowParts → Bool) (rows : List HostRowParts) → chosen_by (map test rows) rows ≡ filter test rows
chosen_map test [] = refl
chosen_map test (row ∷ rows) = λ i. cond (test row) (row ∷ chosen_map test rows i) (chosen_map test rows i)

-- where all are marked, all are chosen
pub all_chosen : (rows : List HostRowParts) → chosen_by (map (λ (r : HostRowParts). true) rows) rows ≡ rows
all_chosen [] = refl
all_chosen (row ∷ rows) = ap (λ (rest : List HostRowParts). row ∷ rest) (all_chosen rows)

-- as many are chosen as are marked
pub length_chosen : (marks : List Bool) (rows : List HostRowParts) → length marks ≡ length rows → length (chosen_by marks rows) ≡ count_set marks
length_chosen [] rows e = refl
length_chosen (mark ∷ marks) [] e = absurd (omega (arith, e))
length_chosen (true ∷ marks) (row ∷ rows) e = ap suc (length_chosen marks rows (omega (arith, e)))
length_chosen (false ∷ marks) (row ∷ rows) e = length_chosen marks rows (omega (arith, e))

-- without rows none is chosen
pub none_chosen : (marks : List Bool) → chosen_by marks [] ≡ []
none_chosen [] = refl
none_chosen (mark ∷ marks) = refl

one_more : {X : Type 0} (xs : List X) (i : ℕ) (d : X) → i < length xs → drop i xs ≡ get_or xs i d ∷ drop (i + 1) xs
one_more xs i d within = let next : suc i ≡ i + 1 = omega arith in drop-cons xs i d within ∙ ap (λ n. get_or xs i d ∷ drop n xs) next

-- what is chosen from a place on, by whether it is marked
pub chosen_from : (marks : List Bool) (rows : List HostRowParts) (i : ℕ) (row : HostRowParts) → length marks ≡ length rows → i < length rows
    → row ≡ get_or rows i row
    → chosen_by (drop i marks) (drop i rows)
    ≡ cond (get_or marks i false) (row ∷ chosen_by (drop (i + 1) marks) (drop (i + 1) rows)) (chosen_by (drop (i + 1) marks) (drop (i + 1) rows))
chosen_from marks rows i row long within is =
    (λ j. chosen_by (one_more marks i false (omega (arith, long)) j) (one_more rows i row within j))
    ∙ ap (λ (r : HostRowParts). cond (get_or marks i false) (r ∷ chosen_by (drop (i + 1) marks) (drop (i + 1) rows)) (chosen_by (drop (i + 1) marks) (drop (i + 1) rows))) (sym is)

pub chosen_yes : (marks : List Bool) (rows : List HostRowParts) (i : ℕ) (row : HostRowParts) → length marks ≡ length rows → i < length rows
    → row ≡ get_or rows i row → get_or marks i false ≡ true
    → chosen_by (drop i marks) (drop i rows) ≡ row ∷ chosen_by (drop (i + 1) marks) (drop (i + 1) rows)
chosen_yes marks rows i row long within is marked =
    chosen_from marks rows i row long within is
    ∙ ap (λ b. cond b (row ∷ chosen_by (drop (i + 1) marks) (drop (i + 1) rows)) (chosen_by (drop (i + 1) marks) (drop (i + 1) rows))) marked

-- a place that isn't marked is passed, of whatever rows
pub chosen_no : (marks : List Bool) (rows : List HostRowParts) (i : ℕ) → i < length marks → get_or marks i false ≡ false
    → chosen_by (drop i marks) (drop i rows) ≡ chosen_by (drop (i + 1) marks) (drop (i + 1) rows)
chosen_no marks rows i within unmarked =
    (λ j. chosen_by (one_more marks i false within j) (drop i rows))
    ∙ (λ j. chosen_by (unmarked j ∷ drop (i + 1) marks) (drop i rows))
    ∙ by (cases_lt i (length rows))
  where
    at : (row : HostRowParts) → i < length rows → chosen_by (false ∷ drop (i + 1) marks) (drop i rows) ≡ chosen_by (drop (i + 1) marks) (drop (i + 1) rows)
    at row below = ap (chosen_by (false ∷ drop (i + 1) marks)) (one_more rows i row below)

    first : (rs : List HostRowParts) → i < length rs → HostRowParts
    first [] below = absurd (omega (arith, below))
    first (row ∷ rs) below = row

    by : (i < length rows) ⊎ (length rows ≤ i) → chosen_by (false ∷ drop (i + 1) marks) (drop i rows) ≡ chosen_by (drop (i + 1) marks) (drop (i + 1) rows)
    by (inl below) = at (first rows below) below
    by (inr past) =
        ap (chosen_by (false ∷ drop (i + 1) marks)) (drop_all i rows past)
        ∙ sym (ap (chosen_by (drop (i + 1) marks)) (drop_all (i + 1) rows (omega arith)) ∙ none_chosen (drop (i + 1) marks))

-- from the end on none is chosen
pub chosen_end : (marks : List Bool) (rows : List HostRowParts) (i : ℕ) → length rows ≤ i → chosen_by (drop i marks) (drop i rows) ≡ []
chosen_end marks rows i past = ap (chosen_by (drop i marks)) (drop_all i rows past) ∙ none_chosen (drop i marks)

-- the same, from the end to the start
pub chosen_back_yes : (marks : List Bool) (rows : List HostRowParts) (i : ℕ) (row : HostRowParts) → length marks ≡ length rows → 0 < i → i ≤ length rows
    → row ≡ get_or rows (i - 1) row → get_or marks (i - 1) false ≡ true
    → chosen_by (drop (i - 1) marks) (drop (i - 1) rows) ≡ row ∷ chosen_by (drop i marks) (drop i rows)
chosen_back_yes marks rows i row long some within is marked =
    let one : i - 1 + 1 ≡ i = omega arith in
    chosen_yes marks rows (i - 1) row long (omega arith) is marked ∙ ap (λ j. row ∷ chosen_by (drop j marks) (drop j rows)) one

pub chosen_back_no : (marks : List Bool) (rows : List HostRowParts) (i : ℕ) → 0 < i → i ≤ length marks → get_or marks (i - 1) false ≡ false
    → chosen_by (drop (i - 1) marks) (drop (i - 1) rows) ≡ chosen_by (drop i marks) (drop i rows)
chosen_back_no marks rows i some within unmarked =
    let one : i - 1 + 1 ≡ i = omega arith in
    chosen_no marks rows (i - 1) (omega arith) unmarked ∙ ap (λ j. chosen_by (drop j marks) (drop j rows)) one

-- lists that differ in length aren't the same
pub differ_in_length : (rows others : List HostRowParts) → length rows ≢ length others → rows_same rows others ≡ false
differ_in_length rows others apart = by (rows_same rows others) refl
  where
    by : (b : Bool) → rows_same rows others ≡ b → b ≡ false
    by true e = absurd (apart (ap length ((rows_decide rows others).0 e)))
    by false e = refl
