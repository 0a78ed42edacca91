-- What a journal is a run of, by the rules of its format. This project's own.
use Rattle.std.specs.Prelude.{ℕ, ◌≡◌, Bool, true, false, List, [], ◌∷◌, take, ⊤}
use Rattle.ev_types.specs.Events.{MayMake}
use Rattle.ev_types.specs.declared.events.Actor.{Actor}
use Rattle.ev_types.specs.declared.journals.Format.{Format}
use Rattle.ev_types.specs.declared.events.Event.{Event}
use Rattle.ev_types.specs.declared.events.Event.TheVariants.{Connect, Disconnect, Response, Health, FetchTimeout, DrainTimeout, TtlExpired, Publish, Reap, Accept, Close, Settle}
use Rattle.ev_types.specs.declared.events.Entry.{Entry}
use Rattle.ev_model.specs.World.{World, opening}
use Rattle.ev_model.specs.Step.{step}

-- the world after these entries
abbrev pub world_after : Format → World → List Entry → World
world_after format world [] = world
world_after format world (entry ∷ entries) = world_after format (step format world entry.actor entry.event).0 entries

-- the world after the first k entries of a journal
abbrev pub world_at : Format → ℕ → List ℕ → List Entry → ℕ → World
world_at format workers node journal k = world_after format (opening workers node) (take k journal)

-- each entry is one of its actor's events, and is answered as the machine answers it at the world before it
abbrev pub RunsFrom : Format → ℕ → World → List Entry → Type 0
RunsFrom format workers world [] = ⊤
RunsFrom format workers world (entry ∷ entries) =
    MayMake workers entry.actor entry.event
    × (entry.answer ≡ (step format world entry.actor entry.event).1)
    × RunsFrom format workers (step format world entry.actor entry.event).0 entries

-- an accept or a close: it is in a batch of its worker, which a settle ends
abbrev pub is_batched : Event → Bool
is_batched Connect = false
is_batched Disconnect = false
is_batched (Response response) = false
is_batched (Health cluster host healthy) = false
is_batched (FetchTimeout timeout) = false
is_batched (DrainTimeout listener) = false
is_batched (TtlExpired kind name) = false
is_batched Publish = false
is_batched Reap = false
is_batched (Accept ask) = true
is_batched (Close connection) = true
is_batched Settle = false

-- there is a next entry, and it is this actor's
abbrev pub GoesOnWith : Actor → List Entry → Type 0
GoesOnWith actor [] = ⊥
GoesOnWith actor (entry ∷ entries) = entry.actor ≡ actor

-- no batch is broken: directly after an accept or a close comes an entry of the same worker
abbrev pub IsUnbroken : List Entry → Type 0
IsUnbroken [] = ⊤
IsUnbroken (entry ∷ entries) = (is_batched entry.event ≡ true → GoesOnWith entry.actor entries) × IsUnbroken entries

-- the journal is a run of the machine
pub record IsRun (format : Format) (workers : ℕ) (node : List ℕ) (journal : List Entry) : Type 0 where
  pub answers : RunsFrom format workers (opening workers node) journal
  pub batches : IsUnbroken journal
