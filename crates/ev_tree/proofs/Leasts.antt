-- The first broken rule of an ascending list is the least.
use Rattle.std.proofs.Common.{◌≡◌, ℕ, ◌≤◌, inl, inr, Bool, true, false, true≢false, List, [], ◌∷◌, Option, Some, None, refl, sym, ◌∙◌, arith, cond}
use Rattle.std.specs.Option.{option_map}
use Rattle.std.specs.List.{AllByRecursion, find}
use Rattle.ev_tree.specs.Rules.{least, IsBroken, AllAbove, IsAscending, IsLeast}

above_broken : (n m : ℕ) (rules : List (ℕ × Bool)) → AllAbove n rules → IsBroken m rules → n ≤ m
above_broken n m [] above broken = absurd broken
above_broken n m (rule ∷ rules) above (inl here) = omega (arith, here.0, above.0)
above_broken n m (rule ∷ rules) above (inr later) = above_broken n m rules above.1 later

at_broken : (rule : ℕ × Bool) (rules : List (ℕ × Bool)) → rule.1 ≡ true → AllAbove rule.0 rules → IsLeast (rule ∷ rules) (Some rule.0)
at_broken rule rules is above = (inl (refl, is), bounded)
  where
    bounded : (m : ℕ) → IsBroken m (rule ∷ rules) → rule.0 ≤ m
    bounded m (inl here) = omega (arith, here.0)
    bounded m (inr later) = above_broken rule.0 m rules above later

kept : (rule : ℕ × Bool) (rules : List (ℕ × Bool)) (found : Option ℕ) → rule.1 ≡ false → IsLeast rules found → IsLeast (rule ∷ rules) found
kept rule rules None is others = none
  where
    none : (m : ℕ) → IsBroken m (rule ∷ rules) → ⊥
    none m (inl here) = true≢false (sym here.1 ∙ is)
    none m (inr later) = others m later
kept rule rules (Some n) is others = (inr others.0, bounded)
  where
    bounded : (m : ℕ) → IsBroken m (rule ∷ rules) → n ≤ m
    bounded m (inl here) = absurd (true≢false (sym here.1 ∙ is))
    bounded m (inr later) = others.1 m later

by_test : (b : Bool) (rule : ℕ × Bool) (rules : List (ℕ × Bool)) → rule.1 ≡ b → AllAbove rule.0 rules → IsLeast rules (least rules) → IsLeast (rule ∷ rules) (option_map (λ (r : ℕ × Bool). r.0) (cond b (Some rule) (find (λ (r : ℕ × Bool). r.1) rules)))
by_test true rule rules is above others = at_broken rule rules is above
by_test false rule rules is above others = kept rule rules (least rules) is others

pub least_is_least : (rules : List (ℕ × Bool)) → IsAscending rules → IsLeast rules (least rules)
least_is_least [] ascending = λ m broken. broken
least_is_least (rule ∷ rules) ascending = by_test rule.1 rule rules refl ascending.0 (least_is_least rules ascending.1)

kept_at : (b : Bool) (rule : ℕ × Bool) (rules : List (ℕ × Bool)) → rule.1 ≡ b → least (rule ∷ rules) ≡ None
    → (least rules ≡ None → AllByRecursion (λ (rule : ℕ × Bool). rule.1 ≡ false) rules) → AllByRecursion (λ (rule : ℕ × Bool). rule.1 ≡ false) (rule ∷ rules)
kept_at true rule rules is e others = let h = rw is at e in cc
kept_at false rule rules is e others = (is, others (rw is at e))

-- where no rule is the least, none is broken
pub all_kept : (rules : List (ℕ × Bool)) → least rules ≡ None → AllByRecursion (λ (rule : ℕ × Bool). rule.1 ≡ false) rules
all_kept [] e = tt
all_kept (rule ∷ rules) e = kept_at rule.1 rule rules refl e (all_kept rules)
