-- The commits of a journal, each beside the number of its actor's seat. This project's own.
use Rattle.std.specs.Prelude.{ℕ, ◌≡◌, ◌+◌, if◌then◌else◌, List, [], ◌∷◌, ◌++◌}
use Rattle.std.specs.List.{AllByRecursion as ByRecursion, flat_map}
use Rattle.ev_types.specs.declared.events.Actor.{Actor}
use Rattle.ev_types.specs.declared.events.Actor.TheVariants.{Stream, Health, Timer, Main, Worker}
use Rattle.ev_types.specs.declared.events.Entry.{Entry}
use Rattle.ev_types.specs.declared.journals.Format.{Format}
use Rattle.ev_model.specs.Runs.{RunsFrom, is_batched}
use Rattle.ev_actors.specs.Journals.{JournalParts, with_entries, world_now}

-- the seat of an actor at the gate
abbrev pub seat_of : Actor → ℕ
seat_of Stream = 0
seat_of Health = 1
seat_of Timer = 2
seat_of Main = 3
seat_of (Worker worker) = worker + 4

-- The commits of these entries, where those before them have begun one:
-- a batch goes with the settle that ends it, and each other entry is a commit of its own.
-- An open batch is no commit yet.
abbrev pub commits_from : List Entry → List Entry → List (ℕ × List Entry)
commits_from begun [] = []
commits_from begun (entry ∷ entries) =
    if is_batched entry.event then commits_from (begun ++ entry ∷ []) entries
    else (seat_of entry.actor, begun ++ entry ∷ []) ∷ commits_from [] entries

-- the commits of a journal
abbrev pub commits_of : List Entry → List (ℕ × List Entry)
commits_of journal = commits_from [] journal

-- the entries of a commit
abbrev pub entries_of_one : ℕ × List Entry → List Entry
entries_of_one commit = commit.1

-- the entries of these commits, in order
abbrev pub entries_in : List (ℕ × List Entry) → List Entry
entries_in commits = flat_map entries_of_one commits

-- what a journal begins as, and its entries
abbrev pub parts_with : Format → ℕ → List ℕ → List Entry → JournalParts
parts_with format workers node journal = record { format = format; workers = workers; node = node; journal = journal }

-- each of these entries is of an actor at another seat
abbrev pub AreElsewhere : ℕ → List Entry → Type 0
AreElsewhere seat entries = ByRecursion (λ (entry : Entry). seat_of entry.actor ≡ seat → ⊥) entries

-- a journal goes on by entries of actors at other seats, each of which is answered as the machine answers it
pub record GrowsByOthers (seat : ℕ) (before after : JournalParts) : Type 0 where
  pub more : List Entry
  pub grown : after ≡ with_entries more before
  pub others : AreElsewhere seat more
  pub runs : RunsFrom before.format before.workers (world_now before) more
