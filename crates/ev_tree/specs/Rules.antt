-- The lowest-numbered rule that a resource breaks, and what a reader of a resource answers. Each rule is a fact about
-- the tree by itself; the crates of the resources have them.
use Rattle.std.specs.Prelude.{◌≡◌, ℕ, ◌<◌, ◌≤◌, ◌⊎◌, ◌&&◌, true, List, [], ◌∷◌, length, Bool, nat_le, Option, Some, None, option_map, Result, Ok, Err, ⊤}
use Rattle.std.specs.List.{find}
use Rattle.ev_tree.specs.declared.limits.TheConstants.{MAX_NAME_BYTES}
use Rattle.ev_tree.specs.declared.outcome.ReadError.{ReadError}
use Rattle.ev_tree.specs.declared.outcome.ReadError.TheVariants.{Rule, OutOfMemory}

-- the first rule of the list that is broken. The lists are in ascending order, so it is the least.
abbrev pub least : List (ℕ × Bool) → Option ℕ
least rules = option_map (λ rule. rule.0) (find (λ rule. rule.1) rules)

-- what a tree reads as: the value, or the lowest-numbered rule that it breaks
abbrev pub judged : {A : Type 0} → Option ℕ → A → Result A ℕ
judged None value = Ok value
judged (Some rule) value = Err rule

-- A reader's answer is what the tree reads as. Running out of memory says nothing.
abbrev pub ReadsAs : {A : Type 0} → Result A ReadError → Result A ℕ → Type 0
ReadsAs (Ok value) reading = reading ≡ Ok value
ReadsAs (Err (Rule rule)) reading = reading ≡ Err rule
ReadsAs (Err OutOfMemory) reading = ⊤

-- 1 to 512 bytes, as a name or an address has
abbrev pub is_name : List ℕ → Bool
is_name bytes = nat_le 1 (length bytes) && nat_le (length bytes) MAX_NAME_BYTES

-- ---- what the least is, for lists in ascending order

-- the rule n is broken
abbrev pub IsBroken : ℕ → List (ℕ × Bool) → Type 0
IsBroken n [] = ⊥
IsBroken n (rule ∷ rules) = ((rule.0 ≡ n) × (rule.1 ≡ true)) ⊎ IsBroken n rules

-- all rules of the list have greater numbers
abbrev pub AllAbove : ℕ → List (ℕ × Bool) → Type 0
AllAbove n [] = ⊤
AllAbove n (rule ∷ rules) = (n < rule.0) × AllAbove n rules

abbrev pub IsAscending : List (ℕ × Bool) → Type 0
IsAscending [] = ⊤
IsAscending (rule ∷ rules) = AllAbove rule.0 rules × IsAscending rules

-- the answer is a rule that is broken, and each broken rule is at least as great
abbrev pub IsLeast : List (ℕ × Bool) → Option ℕ → Type 0
IsLeast rules None = (m : ℕ) → ¬ (IsBroken m rules)
IsLeast rules (Some n) = IsBroken n rules × ((m : ℕ) → IsBroken m rules → n ≤ m)
