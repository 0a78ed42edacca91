-- The form rules that a body, or a part of one, breaks, and the least of them. Each rule is a fact about the
-- tree by itself; the crates of the resources have them.
use Rattle.std.specs.Prelude.{ℕ, ◌||◌, List, [], ◌∷◌, Bool, false, if◌then◌else◌, Option}
use Rattle.std.specs.List.{list_any}
use Rattle.ev_tree.specs.declared.broken.BrokenRules.{BrokenRules}
use Rattle.ev_tree.specs.Rules.{least}

-- no rule is broken
abbrev pub none_broken : BrokenRules
none_broken = record {
  v1 = false;
  v2 = false;
  v3 = false;
  v6 = false;
  v7 = false;
  v8 = false;
  v9 = false;
  v10 = false;
  v11 = false;
  v12 = false;
  v13 = false;
  v14 = false;
  v16 = false;
  v17 = false;
  v18 = false;
  v19 = false;
  v20 = false;
  v21 = false;
  v22 = false;
  v23 = false;
  v24 = false;
  v25 = false;
  v26 = false;
  v27 = false;
  v28 = false;
  v29 = false;
}

-- the rules that one of two parts breaks
abbrev pub either_broken : BrokenRules → BrokenRules → BrokenRules
either_broken a b = record {
  v1 = a.v1 || b.v1;
  v2 = a.v2 || b.v2;
  v3 = a.v3 || b.v3;
  v6 = a.v6 || b.v6;
  v7 = a.v7 || b.v7;
  v8 = a.v8 || b.v8;
  v9 = a.v9 || b.v9;
  v10 = a.v10 || b.v10;
  v11 = a.v11 || b.v11;
  v12 = a.v12 || b.v12;
  v13 = a.v13 || b.v13;
  v14 = a.v14 || b.v14;
  v16 = a.v16 || b.v16;
  v17 = a.v17 || b.v17;
  v18 = a.v18 || b.v18;
  v19 = a.v19 || b.v19;
  v20 = a.v20 || b.v20;
  v21 = a.v21 || b.v21;
  v22 = a.v22 || b.v22;
  v23 = a.v23 || b.v23;
  v24 = a.v24 || b.v24;
  v25 = a.v25 || b.v25;
  v26 = a.v26 || b.v26;
  v27 = a.v27 || b.v27;
  v28 = a.v28 || b.v28;
  v29 = a.v29 || b.v29;
}

-- the rules that one of some parts breaks
abbrev pub any_broken : {A : Type 0} → (A → BrokenRules) → List A → BrokenRules
any_broken broken parts = record {
  v1 = list_any (λ part. (broken part).v1) parts;
  v2 = list_any (λ part. (broken part).v2) parts;
  v3 = list_any (λ part. (broken part).v3) parts;
  v6 = list_any (λ part. (broken part).v6) parts;
  v7 = list_any (λ part. (broken part).v7) parts;
  v8 = list_any (λ part. (broken part).v8) parts;
  v9 = list_any (λ part. (broken part).v9) parts;
  v10 = list_any (λ part. (broken part).v10) parts;
  v11 = list_any (λ part. (broken part).v11) parts;
  v12 = list_any (λ part. (broken part).v12) parts;
  v13 = list_any (λ part. (broken part).v13) parts;
  v14 = list_any (λ part. (broken part).v14) parts;
  v16 = list_any (λ part. (broken part).v16) parts;
  v17 = list_any (λ part. (broken part).v17) parts;
  v18 = list_any (λ part. (broken part).v18) parts;
  v19 = list_any (λ part. (broken part).v19) parts;
  v20 = list_any (λ part. (broken part).v20) parts;
  v21 = list_any (λ part. (broken part).v21) parts;
  v22 = list_any (λ part. (broken part).v22) parts;
  v23 = list_any (λ part. (broken part).v23) parts;
  v24 = list_any (λ part. (broken part).v24) parts;
  v25 = list_any (λ part. (broken part).v25) parts;
  v26 = list_any (λ part. (broken part).v26) parts;
  v27 = list_any (λ part. (broken part).v27) parts;
  v28 = list_any (λ part. (broken part).v28) parts;
  v29 = list_any (λ part. (broken part).v29) parts;
}

-- these rules where a condition holds, and none else
abbrev pub broken_where : Bool → BrokenRules → BrokenRules
broken_where condition broken = if condition then broken else none_broken

-- each rule, in ascending order, and whether it is broken
abbrev pub rules_of : BrokenRules → List (ℕ × Bool)
rules_of broken =
    (1, broken.v1) ∷ (2, broken.v2) ∷ (3, broken.v3) ∷ (6, broken.v6) ∷ (7, broken.v7) ∷ (8, broken.v8)
    ∷ (9, broken.v9) ∷ (10, broken.v10) ∷ (11, broken.v11) ∷ (12, broken.v12) ∷ (13, broken.v13) ∷ (14, broken.v14)
    ∷ (16, broken.v16) ∷ (17, broken.v17) ∷ (18, broken.v18) ∷ (19, broken.v19) ∷ (20, broken.v20) ∷ (21, broken.v21)
    ∷ (22, broken.v22) ∷ (23, broken.v23) ∷ (24, broken.v24) ∷ (25, broken.v25) ∷ (26, broken.v26) ∷ (27, broken.v27)
    ∷ (28, broken.v28) ∷ (29, broken.v29) ∷ []

-- the lowest-numbered rule that is broken
abbrev pub least_of : BrokenRules → Option ℕ
least_of broken = least (rules_of broken)
