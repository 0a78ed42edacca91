-- The lowest priority of rows, and the choice by it.
use Rattle.std.proofs.Common.{◌≡◌, ◌∙◌, refl, sym, ap, subst, ℕ, ◌%◌, ◌==◌, min, map, sum, zero, suc, drop, Bool, true, false, List, [], ◌∷◌, None, Some, ◌⊎◌, inl, inr, arith}
use Rattle.std.specs.List.{list_any}
use Rattle.std.proofs.lemmas.Bool.{cases_lt}
use Rattle.std.proofs.lemmas.Grind.{common_steps}
use Rattle.ev_types.specs.Hosts.{HostRowParts}
use Rattle.ev_model.specs.Choice.{host_place, lowest_priority, place_above, weight_at}
use Rattle.ev_hosts.specs.Chosen.{chosen_by, lowest_of, lowest_with}
use Rattle.ev_hosts.proofs.ChosenLemmas.{none_chosen}

-- where there is a row, it is the lowest priority of the definition
lowest_is : (row : HostRowParts) (rows : List HostRowParts) → lowest_of (row ∷ rows) ≡ Some (lowest_priority (row ∷ rows))
lowest_is row [] = refl
lowest_is row (next ∷ rows) = ap (λ lowest. Some (lowest_with row.priority lowest)) (lowest_is next rows)

least_is : (a b : ℕ) → (min a b ≡ a) ⊎ (min a b ≡ b)
least_is a b = elim (cases_lt a b) [ inl less ↦ inl (omega arith) | inr le ↦ inr (omega arith) ]

lesser_among : (row : HostRowParts) (rows : List HostRowParts) (n : ℕ) → list_any (λ (r : HostRowParts). r.priority == n) rows ≡ true
    → list_any (λ (r : HostRowParts). r.priority == min row.priority n) (row ∷ rows) ≡ true
lesser_among row rows n among =
    let Among : ℕ → Type 0 = λ m. list_any (λ (r : HostRowParts). r.priority == m) (row ∷ rows) ≡ true in
    elim (least_is row.priority n) [
      | inl e ↦ subst Among (sym e) (grind (arith, common_steps))
      | inr e ↦ subst Among (sym e) (grind (arith, common_steps, among))
    ]

lowest_among : (row : HostRowParts) (rows : List HostRowParts) → list_any (λ (r : HostRowParts). r.priority == lowest_priority (row ∷ rows)) (row ∷ rows) ≡ true
lowest_among row [] = grind (arith, common_steps)
lowest_among row (next ∷ rows) = lesser_among row (next ∷ rows) _ (lowest_among next rows)

same_some : {m n : ℕ} → Some m ≡ Some n → m ≡ n
same_some e = cc

-- some row has it
pub among_lowest : (rows : List HostRowParts) (priority : ℕ) → lowest_of rows ≡ Some priority → list_any (λ (r : HostRowParts). r.priority == priority) rows ≡ true
among_lowest [] priority e = cc
among_lowest (row ∷ rows) priority e =
    subst (λ n. list_any (λ (r : HostRowParts). r.priority == n) (row ∷ rows) ≡ true) (same_some (sym (lowest_is row rows) ∙ e)) (lowest_among row rows)

none_some : {n : ℕ} → None ≡ Some n → ⊥
none_some e = cc

-- a row of priority 0 has the lowest, wherever it is chosen
pub lowest_zero : (marks : List Bool) (rows : List HostRowParts) (i : ℕ) → lowest_of (chosen_by (drop i marks) (drop i rows)) ≡ Some 0
    → lowest_of (chosen_by marks rows) ≡ Some 0
lowest_zero marks rows zero e = e
lowest_zero [] rows (suc i) e = cc
lowest_zero (mark ∷ marks) [] (suc i) e = absurd (none_some (sym (ap lowest_of (none_chosen (drop i marks))) ∙ e))
lowest_zero (true ∷ marks) (row ∷ rows) (suc i) e = ap (λ lowest. Some (lowest_with row.priority lowest)) (lowest_zero marks rows i e) ∙ ap Some (omega arith)
lowest_zero (false ∷ marks) (row ∷ rows) (suc i) e = lowest_zero marks rows i e

-- the choice by it
pub place_by : (rows : List HostRowParts) (priority pick : ℕ) → lowest_of rows ≡ Some priority
    → place_above (pick % sum (map (weight_at priority) rows)) (map (weight_at priority) rows) ≡ host_place rows pick
place_by [] priority pick e = cc
place_by (row ∷ rows) priority pick e =
    ap (λ n. place_above (pick % sum (map (weight_at n) (row ∷ rows))) (map (weight_at n) (row ∷ rows))) (sym (same_some (sym (lowest_is row rows) ∙ e)))
