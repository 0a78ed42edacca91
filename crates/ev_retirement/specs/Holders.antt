-- What contracts see of what holds generations, and what a world has of it.
use Rattle.std.specs.Prelude.{◌≡◌, ℕ, Bool, true, false, not, ⊤, ◌==◌, if◌then◌else◌, List, [], ◌∷◌, ◌++◌, filter}
use Rattle.std.specs.List.{list_any, AllByRecursion}
use Rattle.ev_types.specs.declared.events.Answer.{Answer}
use Rattle.ev_types.specs.declared.events.Answer.TheVariants.{Ignored, Done}
use Rattle.ev_types.specs.declared.rows.GenRow.{GenRow}
use Rattle.ev_model.specs.World.{World, OpenMember}
use Rattle.ev_model.specs.Picture.{has_number}
use Rattle.ev_model.specs.Signals.{unexpired}
use Rattle.ev_model.specs.Tidy.{tidy}
use Rattle.ev_retirement.specs.Pictures.{HasPictures, PicturesParts}
use Rattle.ev_ledger.specs.Members.{HasOpened}
use Rattle.ev_drain.specs.Retired.{Retired, has_row, retired_status, HasRetired}

-- the pictures, the open connections by worker and number, and the generations that drain or were dropped by number
pub record HoldersParts : Type 0 where
  pub pictures : PicturesParts
  pub ledger : List OpenMember
  pub drain : List Retired

-- They are those of the world: the pictures, the open connections, and the rows that no longer serve, with their
-- marks; and no other row is marked.
pub record HoldsFor (holders : HoldersParts) (world : World) : Type 0 where
  pub pictures : HasPictures holders.pictures world
  pub opened : HasOpened holders.ledger world.opened
  pub retired : HasRetired holders.drain world.rows world.expired
  pub marked : AllByRecursion (λ number. has_row holders.drain number ≡ true) world.expired

-- the world once the drain timeout of a listener's name came, before it is tidied
abbrev pub with_expired : List ℕ → World → World
with_expired name world = record world { expired = world.expired ++ unexpired world.expired name world.rows }

-- the machine's answer to a drain timeout, by whether there was a generation for which it hadn't come
abbrev pub timeout_answer : Bool → Answer
timeout_answer meant = if meant then Done else Ignored

-- the world that a drain timeout leaves, by the same: one that is tidied, or the one before
abbrev pub timed_out : Bool → List ℕ → World → World
timed_out meant name world = if meant then tidy (with_expired name world) else world

-- the world without the generation of this number, and without its mark
abbrev pub without_generation : ℕ → World → World
without_generation number world = record world {
  rows = filter (λ (row : GenRow). not (row.number == number)) world.rows;
  expired = filter (λ n. not (n == number)) world.expired;
}

-- the world without the generations of these numbers, and without their marks
abbrev pub without_generations : List ℕ → World → World
without_generations numbers world = record world {
  rows = filter (λ (row : GenRow). not (has_number row.number numbers)) world.rows;
  expired = filter (λ n. not (has_number n numbers)) world.expired;
}

-- no two rows have one number
abbrev pub AreNumbered : List GenRow → Type 0
AreNumbered [] = ⊤
AreNumbered (row ∷ rows) = (list_any (λ (other : GenRow). other.number == row.number) rows ≡ false) × AreNumbered rows

-- the world in which one row of these drains, or is dropped
abbrev pub with_retired : Bool → List GenRow → GenRow → List GenRow → World → World
with_retired dropped before row after world =
    record world { rows = before ++ record row { status = retired_status dropped } ∷ after }
