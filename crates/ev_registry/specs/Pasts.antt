-- What led to what is known.
use Rattle.std.specs.Prelude.{ℕ, take}
use Rattle.ev_model.specs.World.{World}
use Rattle.ev_actors.specs.Journals.{JournalParts, world_now}
use Rattle.ev_registry.specs.declared.past.Past.{Past}

-- as a journal
abbrev pub parts_of : Past → JournalParts
parts_of past = record { format = past.format; workers = past.workers; node = past.node.now; journal = past.journal.now }

-- the world before the entry at a place of a journal
abbrev pub world_before : ℕ → JournalParts → World
world_before place parts = world_now (record parts { journal = take place parts.journal })
