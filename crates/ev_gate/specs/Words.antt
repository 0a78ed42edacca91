-- Which gate a pass, a turn and a gate are of, what they know, and what a gate was made with.
use Rattle.std.specs.Prelude.{◌≡◌, ℕ, ◌<◌, List, [], ◌++◌, length, slice_get, Some, All}
use Rattle.atomic_table.specs.Seated.{TableId}
use Rattle.ev_gate.specs.declared.stands.Stands.{Ghosts}
use Rattle.ev_gate.specs.declared.view.View.{View}
use Rattle.ev_gate.specs.declared.gate.Pass.{Pass}
use Rattle.ev_gate.specs.declared.gate.Turn.{Turn}
use Rattle.ev_gate.specs.declared.gate.Gate.{Gate}
use Rattle.ev_gate.specs.History.{commits_by, Continues, Knowledge, seen_of, mine_of}

-- what a view knows of the history
abbrev pub known : {O C : Type 0} → View O C → Knowledge O C
known v = record { number = v.number; opening = v.opening; start = v.start; since = v.since }

module _ {V O C : Type 0} where
  -- the name of a gate, which no other has
  abbrev pub gate_id : Gate V O C → TableId
  gate_id it = it.table.shared.table_id

  -- the value that the gate was made with
  abbrev pub first_of : Gate V O C → V
  first_of it = it.table.shared.key.value.value

  -- how many seats it has
  abbrev pub seats_of : Gate V O C → ℕ
  seats_of it = it.table.shared.key.seats

  abbrev pub turn_gate : Turn V O C → TableId
  turn_gate it = it.seat.table_id

  abbrev pub turn_knows : Turn V O C → Knowledge O C
  turn_knows it = known it.seat.me.0

  abbrev pub turn_value : Turn V O C → V
  turn_value it = it.value

module _ {V O C : Type 0} {g : Ghosts V O C} where
  abbrev pub pass_gate : Pass V O C g → TableId
  pass_gate it = it.seat.table_id

  abbrev pub pass_knows : Pass V O C g → Knowledge O C
  pass_knows it = known it.seat.me.0

  -- the history with the greatest version that the pass has heard of
  abbrev pub pass_heard : Pass V O C g → List (ℕ × C)
  pass_heard it = it.seat.me.0.start ++ it.seat.me.0.heard

  -- the pass of the seat with this number at this gate
  abbrev pub IsPassOf : TableId → ℕ → Pass V O C g → Type 0
  IsPassOf gate number it = (pass_gate it ≡ gate) × ((pass_knows it).number ≡ number)

  -- the passes of a new gate: as many as it has seats, and each with its place for its number,
  -- the start seen and no commit of its own
  pub record AreNew (gate : TableId) (seats : ℕ) (opening : O) (start : List (ℕ × C)) (passes : List (Pass V O C g)) : Type 0 where
    pub count_is : length passes ≡ seats
    pub gate_is : (k : ℕ) (p : Pass V O C g) → slice_get passes k ≡ Some p → pass_gate p ≡ gate
    pub knows : (k : ℕ) (p : Pass V O C g) → slice_get passes k ≡ Some p → pass_knows p ≡ record { number = k; opening = Some opening; start = start; since = [] }
    pub heard : (k : ℕ) (p : Pass V O C g) → slice_get passes k ≡ Some p → pass_heard p ≡ start

  -- All passes of a gate, in any order: as many as it has seats. No two are of one seat, since a pass can't be copied.
  pub record AreAll (gate : TableId) (seats : ℕ) (passes : List (Pass V O C g)) : Type 0 where
    pub count_is : length passes ≡ seats
    pub gate_is : (k : ℕ) (p : Pass V O C g) → slice_get passes k ≡ Some p → pass_gate p ≡ gate

  -- The whole history: the start, and then commits that each bear the number of a seat.
  -- Those of a seat are what its pass counts as its own.
  -- What a pass has seen, and what it has heard of, are beginnings of it.
  pub record IsWhole (start commits : List (ℕ × C)) (passes : List (Pass V O C g)) : Type 0 where
    pub since : List (ℕ × C)
    pub commits_are : commits ≡ start ++ since
    pub numbered : All (λ c. c.0 < length passes) since
    pub own : (k : ℕ) (p : Pass V O C g) → slice_get passes k ≡ Some p → commits_by (pass_knows p).number since ≡ mine_of (pass_knows p)
    pub seen : (k : ℕ) (p : Pass V O C g) → slice_get passes k ≡ Some p → Continues (seen_of (pass_knows p)) commits
    pub heard : (k : ℕ) (p : Pass V O C g) → slice_get passes k ≡ Some p → Continues (pass_heard p) commits
