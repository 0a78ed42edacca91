-- What the program keeps of the chains, so that a chain that drains is found by whether a connection is open on it.
use Rattle.std.specs.Prelude.{ℕ, ◌≡◌, ◌≤◌, ◌==◌, ◌||◌, ◌⊎◌, ⊤, Bool, true, false, not, nat_eq, List, [], ◌∷◌, filter, map, is_some}
use Rattle.std.specs.List.{list_any}
use Rattle.ev_model.specs.World.{OpenMember}
use Rattle.ev_model.specs.Picture.{has_number}
use Rattle.ev_chains.specs.declared.rows.Chain.{Chain}
use Rattle.ev_chains.specs.declared.rows.Row.{Row}
use Rattle.ev_chains.specs.Rows.{has_clash, match_of}

-- ---- numbers

-- the chain has this number among these rows
abbrev pub HasRow : ℕ → Chain → List Row → Type 0
HasRow number chain [] = ⊥
HasRow number chain (row ∷ rows) = ((row.number ≡ number) × (row.chain ≡ chain)) ⊎ HasRow number chain rows

-- the numbers of rows and their chains are apart, and those were allocated
pub record Sound (made : ℕ) (rows : List Row) : Type 0 where
  pub one_chain : (number : ℕ) (one other : Chain) → HasRow number one rows → HasRow number other rows → one ≡ other
  pub one_number : (chain : Chain) (one other : ℕ) → HasRow one chain rows → HasRow other chain rows → one ≡ other
  pub below : (number : ℕ) (chain : Chain) → HasRow number chain rows → number ≤ made

-- no two of these numbers are the same
abbrev pub Apart : List ℕ → Type 0
Apart [] = ⊤
Apart (x ∷ xs) = (has_number x xs ≡ false) × Apart xs

-- The chains that serve, and the numbers of all that ever began to drain: none has another's number.
pub record AreNumbered (made : ℕ) (serving : List Row) (began : List ℕ) : Type 0 where
  pub clear : has_clash (map match_of serving) ≡ false
  pub sound : Sound made serving
  pub apart : Apart began
  pub drawn : (number : ℕ) → has_number number began ≡ true → number ≤ made
  pub other : (number : ℕ) (chain : Chain) → HasRow number chain serving → has_number number began ≡ false

-- ---- connections

-- a connection is open on the chain of this number
abbrev pub is_used : ℕ → List OpenMember → Bool
is_used number opened = list_any (λ (m : OpenMember). m.listener == number) opened

-- the connection is another worker's than the first's, or on a cluster
abbrev pub is_foreign : OpenMember → Bool
is_foreign member = not (member.worker == 0) || is_some member.cluster

-- the set with these keys has the number
abbrev pub is_in : List ℕ → ℕ → Bool
is_in keys number = list_any (nat_eq number) keys

-- The chains that drain, as a list of those without a connection and a set of those with one:
-- they are of those that began to.
pub record ArePlaced (began idle busy : List ℕ) (opened : List OpenMember) : Type 0 where
  pub own : list_any is_foreign opened ≡ false
  pub idle_apart : Apart idle
  pub idle_began : (number : ℕ) → has_number number idle ≡ true → has_number number began ≡ true
  pub idle_unused : (number : ℕ) → has_number number idle ≡ true → is_used number opened ≡ false
  pub busy_began : (number : ℕ) → is_in busy number ≡ true → has_number number began ≡ true
  pub busy_used : (number : ℕ) → is_in busy number ≡ true → is_used number opened ≡ true

-- what is kept of the chains
pub record AreKept (made : ℕ) (serving : List Row) (began idle busy : List ℕ) (opened : List OpenMember) : Type 0 where
  pub numbered : AreNumbered made serving began
  pub placed : ArePlaced began idle busy opened

-- the chain of this number drains
abbrev pub drains : List ℕ → List ℕ → ℕ → Bool
drains idle busy number = has_number number idle || is_in busy number

-- those that drain, in the order in which they began to
abbrev pub draining_in : List ℕ → List ℕ → List ℕ → List ℕ
draining_in began idle busy = filter (drains idle busy) began
