-- A text before its last byte, where that is an `s`.
use Rattle.std.proofs.Common.{◌≡◌, ℕ, ◌++◌, List, [], ◌∷◌, Bool, true, false, Option, Some, None, option_map, refl, ap, arith, nat_eq, cond}
use Rattle.std.proofs.lemmas.Bool.Decides.{nat_tests}
use Rattle.ev_tree.specs.Scalars.{before_unit, signed_span, seconds_span}

pub before_unit-append : (front : List ℕ) → before_unit (front ++ (115 ∷ [])) ≡ Some front
unfolding before_unit
before_unit-append [] = refl
before_unit-append (c ∷ []) = refl
before_unit-append (c ∷ d ∷ front) = ap (option_map (λ rest. c ∷ rest)) (before_unit-append (d ∷ front))

unit_apart : (c : ℕ) → (c ∷ [] ≡ 115 ∷ [] → ⊥) → cond {A = Option (List ℕ)} (nat_eq c 115) (Some []) None ≡ None
unit_apart c other = by_test (nat_eq c 115) refl
  where
    by_test : (b : Bool) → nat_eq c 115 ≡ b → cond {A = Option (List ℕ)} b (Some []) None ≡ None
    by_test true e = let same : c ≡ 115 = grind (arith, nat_tests) in absurd (other (ap (λ n. n ∷ []) same))
    by_test false e = refl

-- what has no such end has nothing before it
pub before_unit_none : (s : List ℕ) → ((front : List ℕ) → s ≡ front ++ (115 ∷ []) → ⊥) → before_unit s ≡ None
unfolding before_unit
before_unit_none [] other = refl
before_unit_none (c ∷ []) other = unit_apart c (λ e. other [] e)
before_unit_none (c ∷ d ∷ s) other =
    ap (option_map (λ rest. c ∷ rest)) (before_unit_none (d ∷ s) (λ front e. other (c ∷ front) (ap (λ xs. c ∷ xs) e)))

-- a text that doesn't begin with a minus
pub signed_span_plain : (s : List ℕ) → ((rest : List ℕ) → s ≡ 45 ∷ rest → ⊥) → signed_span s ≡ seconds_span false s
unfolding signed_span
signed_span_plain [] other = refl
signed_span_plain (c ∷ cs) other = by_test (nat_eq c 45) refl
  where
    by_test : (b : Bool) → nat_eq c 45 ≡ b → cond b (seconds_span true cs) (seconds_span false (c ∷ cs)) ≡ seconds_span false (c ∷ cs)
    by_test true e = let same : c ≡ 45 = grind (arith, nat_tests) in absurd (other cs (ap (λ n. n ∷ cs) same))
    by_test false e = refl
