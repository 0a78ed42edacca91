-- The worker's map of its open connections, as connections.
use Rattle.std.specs.Prelude.{◌≡◌, ◌≤◌, ◌+◌, ℕ, Bool, if◌then◌else◌, nat_eq, List, map, length, Option, Some, None, option_map}
use Rattle.std.specs.List.{IsDistinct}
use Rattle.ev_model.specs.World.{OpenMember}
use Rattle.ev_model.specs.Connections.{cluster_on, listener_after}
use Rattle.ev_model.specs.Operations.{batch_limit}
use Rattle.ev_model.specs.declared.pictures.Choice.{Choice}
use Rattle.ev_model.specs.declared.pictures.Choice.TheVariants.{NoListener, NoChain, On as chosen}
use Rattle.ev_model.specs.declared.pictures.Shown.{Shown}
use Rattle.ev_ledger.specs.Members.{member_on}
use Rattle.ev_ledger.specs.declared.open_on.On.{On}
use Rattle.ev_worker.specs.declared.lines.Accepted.{Accepted}
use Rattle.ev_worker.specs.declared.lines.Accepted.TheVariants.{InUse, Chosen}
use Rattle.ev_worker.specs.declared.lines.BatchLine.{BatchLine}

-- an entry as a connection of this worker
abbrev pub member_of : ℕ → ℕ × On → OpenMember
member_of worker entry = member_on worker entry.0 entry.1

-- the entries as connections of this worker
abbrev pub stored_members : ℕ → List (ℕ × On) → List OpenMember
stored_members worker entries = map (member_of worker) entries

-- what a choice opens a connection on: nothing without a listener or a chain
abbrev pub chosen_on : Choice → Option On
chosen_on NoListener = None
chosen_on NoChain = None
chosen_on (chosen listener chain origin course) = Some (record { listener = listener; cluster = cluster_on course; origin = origin })

-- what an accept opens its connection on, by how it was answered
abbrev pub on_of : Accepted → Option On
on_of InUse = None
on_of (Chosen choice) = chosen_on choice

-- the second look-up finds nothing where the test passes, and elsewhere what the first finds
abbrev pub LosesWhere : {A : Type 0} → (ℕ → Bool) → (ℕ → Option A) → (ℕ → Option A) → Type 0
LosesWhere test before after = (n : ℕ) → after n ≡ (if test n then None else before n)

-- what a connection is on once it has moved by what is shown; where it doesn't move, what it was on
abbrev pub next_of : Shown → On → On
next_of shown on = record on { listener = listener_after shown (member_on 0 0 on) }

-- the second look-up finds what the first finds, where the test passes once it has moved
abbrev pub MovesWhere : (ℕ → Bool) → Shown → (ℕ → Option On) → (ℕ → Option On) → Type 0
MovesWhere test shown before after = (n : ℕ) → after n ≡ (if test n then option_map (next_of shown) (before n) else before n)

-- what every worker keeps: room for the connections that the rest of its batch may open, and no number twice
pub record IsStored (spare : ℕ) (lines : List BatchLine) (numbers : List ℕ) : Type 0 where
  pub room : batch_limit ≤ spare + length lines
  pub apart : IsDistinct nat_eq numbers
