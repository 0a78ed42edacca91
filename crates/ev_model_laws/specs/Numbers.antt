-- The numbers of generations are allocated once, and in order.
use Rattle.std.specs.Prelude.{◌≡◌, ℕ, ◌<◌, ◌≤◌, ◌⊎◌, List, [], ◌∷◌, map, ⊤}
use Rattle.ev_types.specs.declared.rows.GenRow.{GenRow}
use Rattle.ev_types.specs.declared.events.Actor.{Actor}
use Rattle.ev_types.specs.declared.events.Event.{Event}
use Rattle.ev_types.specs.declared.events.Entry.{Entry}
use Rattle.ev_types.specs.declared.journals.Format.{Format}
use Rattle.ev_model.specs.World.{World, opening}
use Rattle.ev_model.specs.Step.{step}
use Rattle.ev_model.specs.Runs.{world_after}

-- low < the first number < the next < .. ≤ high
abbrev pub RiseWithin : ℕ → List ℕ → ℕ → Type 0
RiseWithin low [] high = low ≤ high
RiseWithin low (number ∷ numbers) high = (low < number) × RiseWithin number numbers high

-- the rows' numbers rise, from 1 at least to the count of those allocated at most
abbrev pub IsNumbered : World → Type 0
IsNumbered world = RiseWithin 0 (map (λ (row : GenRow). row.number) world.rows) world.made

-- two rows of one generation: they differ in their status at most
pub record IsSameGeneration (row other : GenRow) : Type 0 where
  pub number : row.number ≡ other.number
  pub kind : row.kind ≡ other.kind
  pub name : row.name ≡ other.name
  pub content : row.content ≡ other.content
  pub kept : row.kept ≡ other.kept

-- the row's generation is among these
abbrev pub IsAmong : List GenRow → GenRow → Type 0
IsAmong [] row = ⊥
IsAmong (other ∷ others) row = IsSameGeneration row other ⊎ IsAmong others row

-- each row's generation is of this world, or its number wasn't allocated in it
abbrev pub AreOldOrNew : World → List GenRow → Type 0
AreOldOrNew world [] = ⊤
AreOldOrNew world (row ∷ rows) = (IsAmong world.rows row ⊎ (world.made < row.number)) × AreOldOrNew world rows

-- numbers are allocated once, and in order
pub record DrawsInOrder : Type 0 where
  -- at the start the rows are numbered in order, since there are none
  pub opens : (workers : ℕ) (node : List ℕ) → IsNumbered (opening workers node)
  -- each event leaves them so
  pub steps : (format : Format) (world : World) (actor : Actor) (event : Event)
      → IsNumbered world → IsNumbered (step format world actor event).0
  -- so they are after any entries
  pub runs : (format : Format) (workers : ℕ) (node : List ℕ) (entries : List Entry)
      → IsNumbered (world_after format (opening workers node) entries)
  -- no number that was allocated is given back
  pub counts : (format : Format) (world : World) (actor : Actor) (event : Event)
      → world.made ≤ (step format world actor event).0.made
  -- a row after an event is of a generation from before it, or has a number that wasn't allocated before it
  pub draws : (format : Format) (world : World) (actor : Actor) (event : Event)
      → AreOldOrNew world (step format world actor event).0.rows
  -- the same after any entries: a number whose generation is gone never comes back
  pub stays_gone : (format : Format) (world : World) (entries : List Entry)
      → AreOldOrNew world (world_after format world entries).rows
