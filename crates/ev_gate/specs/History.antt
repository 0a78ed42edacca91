-- Commits, each beside the number of the seat that made it, and what a seat knows of them.
use Rattle.std.specs.Prelude.{◌≡◌, ◌⊎◌, ℕ, ◌==◌, List, [], ◌∷◌, ◌++◌, filter, Option}

-- of these commits those of the seat n, in order
abbrev pub commits_by : {C : Type 0} → ℕ → List (ℕ × C) → List (ℕ × C)
commits_by n cs = filter (λ c. c.0 == n) cs

-- the later list is the earlier one and then more, none of which is the seat's
abbrev pub GrowsWithout : {C : Type 0} → ℕ → List (ℕ × C) → List (ℕ × C) → Type 0
GrowsWithout {C} n earlier later = (more : List (ℕ × C)) × (later ≡ earlier ++ more) × (commits_by n more ≡ [])

-- the later list is the earlier one, and then perhaps more
abbrev pub Continues : {C : Type 0} → List (ℕ × C) → List (ℕ × C) → Type 0
Continues {C} earlier later = (more : List (ℕ × C)) × (later ≡ earlier ++ more)

-- What a seat knows: its number, the opening of the gate's value, the commits that the value represented at the start,
-- and the commits since then that it has seen.
pub record Knowledge (O C : Type 0) : Type 0 where
  pub number : ℕ
  pub opening : Option O
  pub start : List (ℕ × C)
  pub since : List (ℕ × C)

module _ {O C : Type 0} where
  -- all commits that the seat has seen
  abbrev pub seen_of : Knowledge O C → List (ℕ × C)
  seen_of k = k.start ++ k.since

  -- its own commits, those since the start with its number
  abbrev pub mine_of : Knowledge O C → List (ℕ × C)
  mine_of k = commits_by k.number k.since

  -- the commits are what the seat has seen, and then this one, which is its own
  abbrev pub Adds : Knowledge O C → C → List (ℕ × C) → Type 0
  Adds k c commits = commits ≡ seen_of k ++ (k.number, c) ∷ []

  -- the commits are what the seat has seen, and then one of its own
  abbrev pub AddsOne : Knowledge O C → List (ℕ × C) → Type 0
  AddsOne k commits = (c : C) × Adds k c commits

  -- what the seat counts as its own is one commit more, this one
  abbrev pub CountsAlso : Knowledge O C → C → Knowledge O C → Type 0
  CountsAlso before c after = mine_of after ≡ mine_of before ++ (before.number, c) ∷ []

  -- the commits are what the seat has seen, or that and then one of its own
  abbrev pub AddsAtMostOne : Knowledge O C → List (ℕ × C) → Type 0
  AddsAtMostOne k commits = (commits ≡ seen_of k) ⊎ AddsOne k commits
