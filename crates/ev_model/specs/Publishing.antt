-- How pictures are published, and generations destroyed. This project's own, for Envoy's updates of its worker threads.
use Rattle.std.specs.Prelude.{ℕ, not, if◌then◌else◌, nat_le, List, [], ◌∷◌, ◌++◌, filter, map, length}
use Rattle.ev_types.specs.declared.journals.Format.{Format}
use Rattle.ev_types.specs.declared.events.Answer.{Answer}
use Rattle.ev_types.specs.declared.events.Answer.TheVariants.{Version, Unchanged, Reaped}
use Rattle.ev_types.specs.declared.rows.GenRow.{GenRow}
use Rattle.ev_model.specs.World.{World, last_version}
use Rattle.ev_model.specs.Sorted.{sorted_by}
use Rattle.ev_model.specs.Picture.{shown_of, shown_same, has_number}
use Rattle.ev_model.specs.Dead.{shown_at, is_dead}

-- what workers may serve now is published under the next version, where it isn't what the last picture shows
abbrev pub publish : World → World × Answer
publish world =
    if shown_same (shown_of world) (shown_at world (last_version world))
    then (world, Unchanged)
    else (record world { pictures = world.pictures ++ shown_of world ∷ [] }, Version (length world.pictures))

-- the numbers from the least to the greatest
abbrev pub ascending : List ℕ → List ℕ
ascending numbers = sorted_by nat_le numbers

-- the numbers of dead generations, from the least to the greatest
abbrev pub dead_numbers : Format → World → List ℕ
dead_numbers format world = ascending (map (λ (row : GenRow). row.number) (filter (is_dead format world) world.rows))

-- the dead generations and the marks of their drain timeouts go
abbrev pub without_dead : Format → World → World
without_dead format world = record world {
  rows = filter (λ (row : GenRow). not (is_dead format world row)) world.rows;
  expired = filter (λ number. not (has_number number (dead_numbers format world))) world.expired;
}

-- all dead generations are named, and go
abbrev pub reap : Format → World → World × Answer
reap format world = (without_dead format world, Reaped (dead_numbers format world))
